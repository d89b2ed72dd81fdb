-- Some groups of a plan of frames: how many frames they are, their numbers, and their intra pictures.
use Rattle.std.proofs.Common.{◌≡◌, ℕ, zero, suc, ◌+◌, ◌-◌, ◌*◌, ◌<◌, ◌≤◌, ◌&&◌, ◌==◌, nat_le, nat_lt, min, if◌then◌else◌, Bool, true, false, List, [], ◌∷◌, ◌++◌, length, Option, None, Some, refl, sym, ◌∙◌, ap, arith, sum_by}
use Rattle.std.specs.List.{AllByRecursion, flat_map, range_with_len}
use Rattle.std.proofs.lemmas.Bool.{and_from, and_parts, leb-true, le-leb, lt-ltb, ltb-true}
use Rattle.std.proofs.lemmas.List.Sums.{sum_by-cons}
use Rattle.std.proofs.lemmas.List.FromFn.{length-range_with_len}
use Rattle.dirac_types.specs.declared.settings.Settings.{Settings}
use Rattle.dirac_common.specs.Codes.{is_intra}
use Rattle.dirac_plan.specs.declared.planned.Planned.{Planned}
use Rattle.dirac_plan.specs.Plan.{anchor_of, anchor_offset, anchors_behind, between_of, group, group_at, group_count, retired_of, second_of_anchor, step}
use Rattle.dirac_plan.proofs.Items.{each_of, each_once}
use Rattle.dirac_plan.proofs.Numbers.{either, of_number, sum_groups}
use Rattle.dirac_plan_laws.proofs.Each.{each_joined, each_mapped}

-- m groups from group i on, of n frames
abbrev pub groups_at : Settings → ℕ → ℕ → ℕ → List Planned
groups_at s n i m = flat_map (group_at s n) (range_with_len i m)

-- how many they are
pub length_groups : (s : Settings) (n i m : ℕ) → 0 < s.gop → i + m ≤ group_count s n → length (groups_at s n i m) ≡ min n ((i + m) * s.gop) - i * s.gop
length_groups s n i m some h =
    let count = min n ((i + m) * s.gop) - i * s.gop in
    sym (each_once (groups_at s n i m)) ∙ sum_groups (λ _. 1) s n i m some h ∙ each_of (range_with_len (i * s.gop) count) ∙ length-range_with_len (i * s.gop) count

-- ---- their numbers

-- 1 for what isn't so
abbrev weight : Bool → ℕ
weight true = 0
weight false = 1

-- 1 for a number that isn't among so many from the first one on
abbrev outside : ℕ → ℕ → ℕ → ℕ
outside first count x = weight (nat_le first x && nat_lt x (first + count))

pub record LiesIn (first count : ℕ) (p : Planned) : Type 0 where
  pub low : first ≤ p.number
  pub high : p.number < first + count

inside : (first count x : ℕ) → first ≤ x → x < first + count → outside first count x ≡ 0
inside first count x low high =
    ap weight (and_from (nat_le first x) (nat_lt x (first + count)) (le-leb first x low) (lt-ltb x (first + count) high))

one_is_none : (n : ℕ) → 1 ≤ n → n ≡ 0 → ⊥
one_is_none n some none = omega arith

lies_in : (first count : ℕ) (p : Planned) → outside first count p.number ≡ 0 → LiesIn first count p
lies_in first count p is =
    elim (nat_le first p.number && nat_lt p.number (first + count)) as (λ b. (nat_le first p.number && nat_lt p.number (first + count)) ≡ b → weight b ≡ 0 → LiesIn first count p) [
      | true ↦ λ e z.
          let both = and_parts (nat_le first p.number) (nat_lt p.number (first + count)) e in
          record { low = leb-true first p.number both.0; high = ltb-true p.number (first + count) both.1 }
      | false ↦ λ e z. absurd (one_is_none 1 (omega arith) z)
    ] refl is

none_outside : (len at first count : ℕ) → first ≤ at → at + len ≤ first + count → sum_by (outside first count) (range_with_len at len) ≡ 0
none_outside zero at first count low high = refl
none_outside (suc len) at first count low high =
    let rest = none_outside len (at + 1) first count (omega arith) (omega arith) in
    let here = inside first count at low (omega arith) in
    omega (arith, sum_by-cons (outside first count) at (range_with_len (at + 1) len), rest, here)

all_in : (first count : ℕ) (xs : List Planned) → sum_by (of_number (outside first count)) xs ≡ 0 → AllByRecursion (LiesIn first count) xs
all_in first count [] is = tt
all_in first count (x ∷ xs) is =
    let parts = sum_by-cons (of_number (outside first count)) x xs in
    let here : outside first count x.number ≡ 0 = omega arith in
    let rest : sum_by (of_number (outside first count)) xs ≡ 0 = omega arith in
    (lies_in first count x here, all_in first count xs rest)

pub groups_lie : (s : Settings) (n i m : ℕ) → 0 < s.gop → i + m ≤ group_count s n → AllByRecursion (LiesIn (i * s.gop) (min n ((i + m) * s.gop) - i * s.gop)) (groups_at s n i m)
groups_lie s n i m some h =
    let first = i * s.gop in
    let count = min n ((i + m) * s.gop) - first in
    all_in first count (groups_at s n i m) (sum_groups (outside first count) s n i m some h ∙ none_outside count first first count (omega arith) (omega arith))

-- ---- their intra pictures

abbrev pub IsInter : Planned → Type 0
IsInter p = is_intra p.code ≡ false

anchor_inter : (number before : ℕ) (second retired : Option ℕ) → IsInter (anchor_of number before second retired)
anchor_inter number before None retired = refl
anchor_inter number before (Some second) retired = refl

between_inter : (references before after number : ℕ) → IsInter (between_of references before after number)
between_inter references before after number = either (references == 2) IsInter _ _ refl refl

pub steps_inter : (s : Settings) (len first : ℕ) → AllByRecursion IsInter (flat_map (step s len first) (range_with_len 0 (anchors_behind s len)))
steps_inter s len first =
    each_joined IsInter (step s len first) 0 (anchors_behind s len) (λ k low high.
    let before = first + anchor_offset s len k in
    let after = first + anchor_offset s len (suc k) in (
      anchor_inter after before (second_of_anchor s first k) (retired_of s len first k),
      each_mapped IsInter (between_of s.references before after) (before + 1) (after - before - 1) (λ m low' high'. between_inter s.references before after m),
    ))

-- a point more, where it is an intra picture
abbrev pub planned_up : ℕ → Planned → ℕ
planned_up points q = if is_intra q.code then suc points else points

-- the points behind these
abbrev pub planned_points : ℕ → List Planned → ℕ
planned_points points [] = points
planned_points points (q ∷ qs) = planned_points (planned_up points q) qs

pub points_append : (xs ys : List Planned) (points : ℕ) → planned_points points (xs ++ ys) ≡ planned_points (planned_points points xs) ys
points_append [] ys points = refl
points_append (x ∷ xs) ys points = points_append xs ys (planned_up points x)

pub points_inter : (xs : List Planned) (points : ℕ) → AllByRecursion IsInter xs → planned_points points xs ≡ points
points_inter [] points all = refl
points_inter (x ∷ xs) points all = ap (λ (b : Bool). planned_points (if b then suc points else points) xs) all.0 ∙ points_inter xs points all.1

-- each group has one
pub points_groups : (s : Settings) (n m i points : ℕ) → planned_points points (groups_at s n i m) ≡ points + m
points_groups s n zero i points = omega arith
points_groups s n (suc m) i points =
    let len = min s.gop (n - i * s.gop) in
    let first = i * s.gop in
    let steps = flat_map (step s len first) (range_with_len 0 (anchors_behind s len)) in
    let one : planned_points points (group s len first) ≡ suc points = points_inter steps (suc points) (steps_inter s len first) in
    points_append (group s len first) (groups_at s n (i + 1) m) points ∙ ap (λ p. planned_points p (groups_at s n (i + 1) m)) one
    ∙ points_groups s n m (i + 1) (suc points) ∙ omega arith

-- and begins with it
unfoldable pub BeginIntra : List Planned → Type 0
BeginIntra [] = Unit {0}
BeginIntra (q ∷ qs) = is_intra q.code ≡ true

pub groups_begin : (s : Settings) (n m i : ℕ) → BeginIntra (groups_at s n i m)
unfolding BeginIntra
groups_begin s n zero i = tt
groups_begin s n (suc m) i = refl
