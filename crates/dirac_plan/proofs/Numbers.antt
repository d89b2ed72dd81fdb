-- A plan of frames has each frame once.
use Rattle.std.proofs.Common.{◌≡◌, ℕ, zero, suc, ◌+◌, ◌-◌, ◌*◌, ◌<◌, ◌≤◌, min, List, [], ◌∷◌, Option, None, Some, Bool, true, false, ◌==◌, map, refl, ap, ◌∙◌, sym, arith, sum_by, if◌then◌else◌, inl, inr}
use Rattle.std.specs.List.{flat_map, range_with_len}
use Rattle.std.proofs.lemmas.List.Sums.{sum_by-append, sum_by-cons}
use Rattle.std.proofs.lemmas.Bool.{cases_lt}
use Rattle.dirac_types.specs.declared.settings.Settings.{Settings}
use Rattle.dirac_plan.specs.declared.planned.Planned.{Planned}
use Rattle.dirac_plan.specs.Plan.{opening_of, anchor_of, between_of, anchor_offset, anchors_behind, second_of_anchor, retired_of, step, group, group_at, group_count, frames_plan}
use Rattle.dirac_plan.proofs.Lists.{sum_ranges}
use Rattle.dirac_plan.proofs.Anchors.{anchor_rises, last_anchor, covered, uncovered}

pub anchor_number : (number before : ℕ) (second retired : Option ℕ) → (anchor_of number before second retired).number ≡ number
anchor_number number before None retired = refl
anchor_number number before (Some second) retired = refl

-- what holds of both
pub either : {X : Type 0} (b : Bool) (P : X → Type 0) (x y : X) → P x → P y → P (if b then x else y)
either true P x y px py = px
either false P x y px py = py

pub between_number : (references before after number : ℕ) → (between_of references before after number).number ≡ number
between_number references before after number =
    let P : Planned → Type 0 = λ p. p.number ≡ number in
    either (references == 2) P _ _ refl refl

-- the weight of a planned picture is that of its number
abbrev pub of_number : (ℕ → ℕ) → Planned → ℕ
of_number f p = f p.number

sum_mapped : (f : ℕ → ℕ) (g : ℕ → Planned) → ((n : ℕ) → (g n).number ≡ n) → (ns : List ℕ) → sum_by (of_number f) (map g ns) ≡ sum_by f ns
sum_mapped f g same [] = refl
sum_mapped f g same (n ∷ ns) =
    let head = ap f (same n) in
    let rest = sum_mapped f g same ns in
    let left = sum_by-cons (of_number f) (g n) (map g ns) in
    let right = sum_by-cons f n ns in
    omega arith

sum_one : (f : ℕ → ℕ) (n : ℕ) → sum_by f (range_with_len n 1) ≡ f n
sum_one f n = omega (arith, sum_by-cons f n [])

sum_step : (f : ℕ → ℕ) (s : Settings) (len first k : ℕ) → anchor_offset s len k < anchor_offset s len (suc k)
    → sum_by (of_number f) (step s len first k) ≡ sum_by f (range_with_len (first + anchor_offset s len k + 1) (anchor_offset s len (suc k) - anchor_offset s len k))
sum_step f s len first k rises =
    let a : ℕ = first + anchor_offset s len k in
    let b : ℕ = first + anchor_offset s len (suc k) in
    let between : ℕ → Planned = between_of s.references a b in
    let coded = anchor_of b a (second_of_anchor s first k) (retired_of s len first k) in
    let head = ap f (anchor_number b a (second_of_anchor s first k) (retired_of s len first k)) in
    let rest = sum_mapped f between (between_number s.references a b) (range_with_len (a + 1) (b - a - 1)) in
    let whole = sum_by-cons (of_number f) coded (map between (range_with_len (a + 1) (b - a - 1))) in
    let last = sum_one f b in
    let both = sum_ranges f (a + 1) (b - a - 1) 1 b (anchor_offset s len (suc k) - anchor_offset s len k) (omega arith) (omega arith) in
    omega arith

sum_none : (f : ℕ → ℕ) (a n : ℕ) → n ≡ 0 → sum_by f (range_with_len a n) ≡ 0
sum_none f a n e = ap (λ m. sum_by f (range_with_len a m)) e

sum_steps : (f : ℕ → ℕ) (s : Settings) (len first k m : ℕ) → k + m ≤ anchors_behind s len
    → (anchor_offset s len k ≤ anchor_offset s len (k + m)) × (sum_by (of_number f) (flat_map (step s len first) (range_with_len k m)) ≡ sum_by f (range_with_len (first + anchor_offset s len k + 1) (anchor_offset s len (k + m) - anchor_offset s len k)))
sum_steps f s len first k zero h =
    let same : anchor_offset s len (k + 0) ≡ anchor_offset s len k = ap (anchor_offset s len) (omega arith) in
    (omega arith, sym (sum_none f (first + anchor_offset s len k + 1) (anchor_offset s len (k + 0) - anchor_offset s len k) (omega arith)))
sum_steps f s len first k (suc m) h =
    let one : k + 1 ≡ suc k = omega arith in
    let far : anchor_offset s len (k + suc m) ≡ anchor_offset s len (k + 1 + m) = ap (anchor_offset s len) (omega arith) in
    let near : anchor_offset s len (k + 1) ≡ anchor_offset s len (suc k) = ap (anchor_offset s len) one in
    let rises = anchor_rises s len k (omega arith) in
    let here = sum_step f s len first k rises in
    let rest = sum_steps f s len first (k + 1) m (omega arith) in
    let place : first + anchor_offset s len (k + 1) + 1 ≡ first + anchor_offset s len k + 1 + (anchor_offset s len (suc k) - anchor_offset s len k) = omega arith in
    let both = sum_by-append (of_number f) (step s len first k) (flat_map (step s len first) (range_with_len (k + 1) m)) in
    let ranges = sum_ranges f (first + anchor_offset s len k + 1) (anchor_offset s len (suc k) - anchor_offset s len k) (anchor_offset s len (k + 1 + m) - anchor_offset s len (k + 1)) (first + anchor_offset s len (k + 1) + 1) (anchor_offset s len (k + suc m) - anchor_offset s len k) (omega arith) (omega (arith, rest.0)) in
    (omega (arith, rest.0), omega (arith, rest.1))

pub sum_group : (f : ℕ → ℕ) (s : Settings) (len first : ℕ) → 0 < len → sum_by (of_number f) (group s len first) ≡ sum_by f (range_with_len first len)
sum_group f s len first some =
    let steps = sum_steps f s len first 0 (anchors_behind s len) (omega arith) in
    let far : anchor_offset s len (0 + anchors_behind s len) ≡ anchor_offset s len (anchors_behind s len) = ap (anchor_offset s len) (omega arith) in
    let last = last_anchor s len in
    let whole = sum_by-cons (of_number f) (opening_of s first) (flat_map (step s len first) (range_with_len 0 (anchors_behind s len))) in
    let one = sum_one f first in
    let count : anchor_offset s len (0 + anchors_behind s len) - anchor_offset s len 0 ≡ len - 1 = omega arith in
    let place : first + anchor_offset s len 0 + 1 ≡ first + 1 = omega arith in
    let rest : sum_by f (range_with_len (first + anchor_offset s len 0 + 1) (anchor_offset s len (0 + anchors_behind s len) - anchor_offset s len 0)) ≡ sum_by f (range_with_len (first + 1) (len - 1)) =
    ap (λ n. sum_by f (range_with_len (first + anchor_offset s len 0 + 1) n)) count ∙ ap (λ a. sum_by f (range_with_len a (len - 1))) place in
    let both = sum_ranges f first 1 (len - 1) (first + 1) len refl (omega arith) in
    omega (arith, steps.1)

pub sum_groups : (f : ℕ → ℕ) (s : Settings) (n i m : ℕ) → 0 < s.gop → i + m ≤ group_count s n
    → sum_by (of_number f) (flat_map (group_at s n) (range_with_len i m)) ≡ sum_by f (range_with_len (i * s.gop) (min n ((i + m) * s.gop) - i * s.gop))
sum_groups f s n i zero some h = sym (sum_none f (i * s.gop) (min n ((i + 0) * s.gop) - i * s.gop) (omega arith))
sum_groups f s n i (suc m) some h =
    let len : ℕ = min s.gop (n - i * s.gop) in
    let more = uncovered n s.gop i some (omega arith) in
    let here = sum_group f s len (i * s.gop) (omega arith) in
    let rest = sum_groups f s n (i + 1) m some (omega arith) in
    let both = sum_by-append (of_number f) (group_at s n i) (flat_map (group_at s n) (range_with_len (i + 1) m)) in
    by_end f s n i m more here rest both
  where
    by_end : (f : ℕ → ℕ) (s : Settings) (n i m : ℕ) → i * s.gop < n
        → sum_by (of_number f) (group_at s n i) ≡ sum_by f (range_with_len (i * s.gop) (min s.gop (n - i * s.gop)))
        → sum_by (of_number f) (flat_map (group_at s n) (range_with_len (i + 1) m)) ≡ sum_by f (range_with_len ((i + 1) * s.gop) (min n ((i + 1 + m) * s.gop) - (i + 1) * s.gop))
        → sum_by (of_number f) (flat_map (group_at s n) (range_with_len i (suc m))) ≡ sum_by (of_number f) (group_at s n i) + sum_by (of_number f) (flat_map (group_at s n) (range_with_len (i + 1) m))
        → sum_by (of_number f) (flat_map (group_at s n) (range_with_len i (suc m))) ≡ sum_by f (range_with_len (i * s.gop) (min n ((i + suc m) * s.gop) - i * s.gop))
    by_end f s n i m more here rest both = elim (cases_lt n ((i + 1) * s.gop)) [
      | inl last ↦
          let none = sum_none f ((i + 1) * s.gop) (min n ((i + 1 + m) * s.gop) - (i + 1) * s.gop) (omega arith) in
          let count : min n ((i + suc m) * s.gop) - i * s.gop ≡ min s.gop (n - i * s.gop) = omega arith in
          let same = ap (λ c. sum_by f (range_with_len (i * s.gop) c)) count in
          both ∙ omega arith
      | inr full ↦
          let count : min s.gop (n - i * s.gop) ≡ s.gop = omega arith in
          let same = ap (λ c. sum_by f (range_with_len (i * s.gop) c)) count in
          let ranges = sum_ranges f (i * s.gop) s.gop (min n ((i + 1 + m) * s.gop) - (i + 1) * s.gop) ((i + 1) * s.gop) (min n ((i + suc m) * s.gop) - i * s.gop) (omega arith) (omega arith) in
          both ∙ omega arith
    ]

pub sum_frames : (f : ℕ → ℕ) (n : ℕ) (s : Settings) → 0 < s.gop → sum_by (of_number f) (frames_plan n s) ≡ sum_by f (range_with_len 0 n)
unfolding frames_plan
sum_frames f n s some =
    let all = sum_groups f s n 0 (group_count s n) some (omega arith) in
    let far = covered n s.gop some in
    let count : min n ((0 + group_count s n) * s.gop) - 0 * s.gop ≡ n = omega arith in
    let start : 0 * s.gop ≡ 0 = omega arith in
    all ∙ ap (λ c. sum_by f (range_with_len (0 * s.gop) c)) count ∙ ap (λ a. sum_by f (range_with_len a n)) start
