-- What stands at each place of a plan of frames.
use Rattle.std.proofs.Common.{◌≡◌, ℕ, zero, suc, ◌+◌, ◌-◌, ◌*◌, ◌/◌, ◌%◌, ◌<◌, ◌≤◌, min, List, [], ◌∷◌, Option, None, Some, length, slice_get, refl, ap, ap₂, subst, nat_le, nat_lt, ◌==◌, ◌||◌, Bool, true, false, if◌then◌else◌, ◌∙◌, sym, arith, inl, inr, IfSome, sum_by, le-leb, div-add-mod', div-mul-le_self, mul-le-mul_right}
use Rattle.std.specs.List.{range_with_len}
use Rattle.std.proofs.lemmas.Bool.{cases_lt, eq-eqb, le-ltb, lt-ltb, ne_eqb}
use Rattle.std.proofs.lemmas.Nat.{le-div, mod_below}
use Rattle.std.proofs.lemmas.List.Sums.{sum_by-cons}
use Rattle.std.proofs.lemmas.List.FromFn.{length-range_with_len, length-map-range_with_len}
use Rattle.dirac_types.specs.declared.settings.Settings.{Settings}
use Rattle.dirac_plan.specs.declared.planned.Planned.{Planned}
use Rattle.dirac_plan.specs.Plan.{opening_of, anchor_of, between_of, anchor_offset, anchors_behind, left_anchor, second_of_anchor, retired_of, retired_of_former, step, group, group_at, group_count, frames_plan}
use Rattle.dirac_plan.proofs.Lists.{get_joined, get_mapped}
use Rattle.dirac_plan.proofs.Anchors.{anchor_is}
use Rattle.dirac_plan.proofs.Numbers.{of_number, sum_group, sum_frames}

-- each is one
pub each_once : (xs : List Planned) → sum_by (of_number (λ _. 1)) xs ≡ length xs
each_once [] = refl
each_once (x ∷ xs) = omega (arith, sum_by-cons (of_number (λ _. 1)) x xs, each_once xs)

-- as many as there are
pub each_of : (ns : List ℕ) → sum_by (λ _. 1) ns ≡ length ns
each_of [] = refl
each_of (n ∷ ns) = omega (arith, sum_by-cons (λ _. 1) n ns, each_of ns)

-- how many frames a group and a plan have
pub length_group : (s : Settings) (len first : ℕ) → 0 < len → length (group s len first) ≡ len
length_group s len first some =
    sym (each_once (group s len first)) ∙ sum_group (λ _. 1) s len first some ∙ each_of (range_with_len first len) ∙ length-range_with_len first len

pub length_frames : (n : ℕ) (s : Settings) → 0 < s.gop → length (frames_plan n s) ≡ n
length_frames n s some = sym (each_once (frames_plan n s)) ∙ sum_frames (λ _. 1) n s some ∙ each_of (range_with_len 0 n) ∙ length-range_with_len 0 n

length_step : (s : Settings) (len first k : ℕ) → anchor_offset s len k < anchor_offset s len (suc k) → length (step s len first k) ≡ anchor_offset s len (suc k) - anchor_offset s len k
length_step s len first k rises =
    let a : ℕ = first + anchor_offset s len k in
    let b : ℕ = first + anchor_offset s len (suc k) in
    let between : ℕ → Planned = between_of s.references a b in
    omega (arith, length-map-range_with_len between (a + 1) (b - a - 1))

-- item j of step k
group_item : (s : Settings) (len first k j p : ℕ) (x : Planned) → j < s.between + 1 → 1 + (k * (s.between + 1) + j) ≡ p → p < len
    → slice_get (step s len first k) j ≡ Some x → slice_get (group s len first) p ≡ Some x
group_item s len first k j zero x h e l here = absurd (omega arith)
group_item s len first k j (suc q) x h e l here =
    let inside : k < anchors_behind s len = le-div (suc k) (len - 1 + s.between) (s.between + 1) (omega arith) (omega arith) in
    get_joined (step s len first) (s.between + 1) 0 (anchors_behind s len) k j k q x inside (omega arith) (omega arith)
    (λ m _ below.
    let more = mul-le-mul_right (s.between + 1) below in
    let a = anchor_is s len m in
    let b = anchor_is s len (suc m) in
    let long = length_step s len first m (omega arith) in
    omega arith)
    here

-- item o of group i
plan_item : (s : Settings) (n i o g : ℕ) (x : Planned) → o < s.gop → i * s.gop + o ≡ g → g < n
    → slice_get (group_at s n i) o ≡ Some x → slice_get (frames_plan n s) g ≡ Some x
unfolding frames_plan
plan_item s n i o g x h e l here =
    let inside : i < group_count s n = le-div (suc i) (n + (s.gop - 1)) s.gop (omega arith) (omega arith) in
    get_joined (group_at s n) s.gop 0 (group_count s n) i o i g x inside (omega arith) e
    (λ m _ below.
    let more = mul-le-mul_right s.gop below in
    let long = length_group s (min s.gop (n - m * s.gop)) (m * s.gop) (omega arith) in
    omega arith)
    here

-- where place g stands: in which group, how far behind its first picture, how long the group is, in which step, and how far behind that step's anchor
pub record IsPlace (n : ℕ) (s : Settings) (g first len k j : ℕ) : Type 0 where
  pub in_plan : g < n
  pub group : (i : ℕ) × (first ≡ i * s.gop)
  pub len_is : len ≡ min s.gop (n - first)
  pub in_step : j < s.between + 1
  pub place : first + (1 + (k * (s.between + 1) + j)) ≡ g
  pub in_group : 1 + (k * (s.between + 1) + j) < s.gop

-- the place of each item that opens no group
pub place_of : (n : ℕ) (s : Settings) (g len : ℕ) → g < n → 0 < s.gop → 0 < g % s.gop → len ≡ min s.gop (n - (g - g % s.gop))
    → IsPlace n s g (g - g % s.gop) len ((g % s.gop - 1) / (s.between + 1)) ((g % s.gop - 1) % (s.between + 1))
place_of n s g len h some opens long =
    let whole = div-add-mod' g s.gop in
    let low = mod_below g s.gop some in
    let steps = div-add-mod' (g % s.gop - 1) (s.between + 1) in
    record {
      in_plan = h;
      group = (g / s.gop, omega arith);
      len_is = long;
      in_step = mod_below (g % s.gop - 1) (s.between + 1) (omega arith);
      place = omega arith;
      in_group = omega arith;
    }

pub opening_item : (n : ℕ) (s : Settings) (g : ℕ) → g < n → 0 < s.gop → g % s.gop ≡ 0 → slice_get (frames_plan n s) g ≡ Some (opening_of s g)
opening_item n s g h some opens =
    let whole = div-add-mod' g s.gop in
    let same : g / s.gop * s.gop ≡ g = omega arith in
    plan_item s n (g / s.gop) 0 g (opening_of s g) some (omega arith) h (ap (λ m. Some (opening_of s m)) same)

-- the anchors before and behind a place
pub before_place : (n : ℕ) (s : Settings) (g first len k j : ℕ) → IsPlace n s g first len k j → first + anchor_offset s len k ≡ first + k * (s.between + 1)
before_place n s g first len k j is =
    let e = anchor_is s len k in
    omega (arith, is.in_plan, is.len_is, is.place, is.in_group)

pub after_place : (n : ℕ) (s : Settings) (g first len k j : ℕ) → IsPlace n s g first len k j → first + anchor_offset s len (suc k) ≡ first + min (k * (s.between + 1) + (s.between + 1)) (len - 1)
after_place n s g first len k j is =
    let e = anchor_is s len (suc k) in
    omega arith

in_step : (n : ℕ) (s : Settings) (g first len k j : ℕ) (x : Planned) → IsPlace n s g first len k j → slice_get (step s len first k) j ≡ Some x → slice_get (frames_plan n s) g ≡ Some x
in_step n s g first len k j x is here =
    let o : ℕ = 1 + (k * (s.between + 1) + j) in
    let inside : o < len = omega (arith, is.in_plan, is.len_is, is.place, is.in_group) in
    let item = group_item s len first k j o x is.in_step refl inside here in
    let P : ℕ → Type 0 = λ m. slice_get (group s (min s.gop (n - m)) m) o ≡ Some x in
    let Q : ℕ → Type 0 = λ l. slice_get (group s l first) o ≡ Some x in
    plan_item s n is.group.0 o g x is.in_group (omega (arith, is.group.1, is.place)) is.in_plan (subst P is.group.1 (subst Q is.len_is item))

pub anchor_item : (n : ℕ) (s : Settings) (g first len k : ℕ) → IsPlace n s g first len k 0
    → slice_get (frames_plan n s) g ≡ Some (anchor_of (first + anchor_offset s len (suc k)) (first + anchor_offset s len k) (second_of_anchor s first k) (retired_of s len first k))
anchor_item n s g first len k is = in_step n s g first len k 0 _ is refl

pub between_item : (n : ℕ) (s : Settings) (g first len k j : ℕ) → IsPlace n s g first len k j → 0 < j
    → slice_get (frames_plan n s) g ≡ Some (between_of s.references (first + anchor_offset s len k) (first + anchor_offset s len (suc k)) (g - 1))
between_item n s g first len k zero is some = absurd (omega arith)
between_item n s g first len k (suc j) is some =
    let a : ℕ = first + anchor_offset s len k in
    let b : ℕ = first + anchor_offset s len (suc k) in
    let before = before_place n s g first len k (suc j) is in
    let after = after_place n s g first len k (suc j) is in
    let between : ℕ → Planned = between_of s.references a b in
    in_step n s g first len k (suc j) (between (g - 1)) is
    (get_mapped between (a + 1) (b - a - 1) j (g - 1) (omega (arith, is.in_plan, is.len_is, is.in_step, is.place, is.in_group)) (omega (arith, is.place)))

-- what a group retires of the group before it: nothing where that isn't asked for or none is before it
pub none_asked : (s : Settings) (first j : ℕ) → s.alike ≡ 0 → retired_of_former s first j ≡ None
unfolding retired_of_former
none_asked s first j e =
    ap (λ (b : Bool). if b || nat_lt first s.gop then None else Some (first - s.gop + anchor_offset s s.gop (left_anchor (anchors_behind s s.gop) j))) (eq-eqb s.alike 0 e)

or_true : (b : Bool) → (b || true) ≡ true
or_true true = refl
or_true false = refl

pub none_before : (s : Settings) (first j : ℕ) → first < s.gop → retired_of_former s first j ≡ None
unfolding retired_of_former
none_before s first j less =
    let of : Bool → Option ℕ = λ b. if b then None else Some (first - s.gop + anchor_offset s s.gop (left_anchor (anchors_behind s s.gop) j)) in
    ap (λ (b : Bool). of (s.alike == 0 || b)) (lt-ltb first s.gop less) ∙ ap of (or_true (s.alike == 0))

pub some_before : (s : Settings) (first j : ℕ) → (s.alike ≡ 0 → ⊥) → s.gop ≤ first
    → retired_of_former s first j ≡ Some (first - s.gop + anchor_offset s s.gop (left_anchor (anchors_behind s s.gop) j))
unfolding retired_of_former
some_before s first j asked behind =
    ap₂ (λ (a b : Bool). if a || b then None else Some (first - s.gop + anchor_offset s s.gop (left_anchor (anchors_behind s s.gop) j))) (ne_eqb s.alike 0 asked) (le-ltb first s.gop behind)

-- no anchor of a group stands far behind it, as if no group ended
left_most : (m j : ℕ) → left_anchor m j ≤ m + 1
left_most m zero = omega arith
left_most m (suc zero) = omega arith
left_most m (suc (suc j)) = omega arith

pub left_within : (s : Settings) (j : ℕ) → left_anchor (anchors_behind s s.gop) j * (s.between + 1) ≤ s.gop + 2 * s.between + 1
left_within s j =
    let m : ℕ = anchors_behind s s.gop in
    let most = mul-le-mul_right (s.between + 1) (left_most m j) in
    let all = div-mul-le_self (s.gop - 1 + s.between) (s.between + 1) in
    omega arith

-- it stands before its first frame
pub former_below : (s : Settings) (first j : ℕ) → 0 < s.gop → IfSome (retired_of_former s first j) (λ r. r < first)
unfolding retired_of_former
former_below s first j some = elim (s.alike == 0) as (λ b. IfSome (if b || nat_lt first s.gop then None else Some (first - s.gop + anchor_offset s s.gop (left_anchor (anchors_behind s s.gop) j))) (λ r. r < first)) [
  | true ↦ tt
  | false ↦ elim (cases_lt first s.gop) [
    | inl none ↦ rw (lt-ltb first s.gop none) tt
    | inr former ↦ rw (le-ltb first s.gop former) (let is = anchor_is s s.gop (left_anchor (anchors_behind s s.gop) j) in omega arith)
  ]
]

retired_is : (s : Settings) (len first k : ℕ) → k * (s.between + 1) ≤ len - 1
    → retired_of s len first k ≡ (if nat_le 2 k then Some (first + k * (s.between + 1) - (s.between + 1)) else retired_of_former s first (k + 1))
retired_is s len first zero h = refl
retired_is s len first (suc zero) h = refl
retired_is s len first (suc (suc k)) h =
    let here = anchor_is s len (suc k) in
    let place : first + anchor_offset s len (suc k) ≡ first + suc (suc k) * (s.between + 1) - (s.between + 1) = omega arith in
    rw (le-leb 2 (suc (suc k)) (omega arith)) (ap Some place)

-- the anchor at a place, by numbers alone
pub coded_anchor : (n : ℕ) (s : Settings) (g first len k : ℕ) → IsPlace n s g first len k 0
    → slice_get (frames_plan n s) g ≡ Some (anchor_of (first + min (k * (s.between + 1) + (s.between + 1)) (len - 1)) (first + k * (s.between + 1)) (second_of_anchor s first k)
    (if nat_le 2 k then Some (first + k * (s.between + 1) - (s.between + 1)) else retired_of_former s first (k + 1)))
coded_anchor n s g first len k is =
    let before = before_place n s g first len k 0 is in
    let after = after_place n s g first len k 0 is in
    let retired = retired_is s len first k (omega (arith, is.in_plan, is.len_is, is.place, is.in_group)) in
    let of : ℕ → ℕ → Option ℕ → Option Planned = λ a b r. Some (anchor_of a b (second_of_anchor s first k) r) in
    anchor_item n s g first len k is
    ∙ ap (λ a. of a (first + anchor_offset s len k) (retired_of s len first k)) after
    ∙ ap₂ (of (first + min (k * (s.between + 1) + (s.between + 1)) (len - 1))) before retired

-- the picture between two anchors at a place, by numbers alone
pub coded_between : (n : ℕ) (s : Settings) (g first len k j : ℕ) → IsPlace n s g first len k j → 0 < j
    → slice_get (frames_plan n s) g ≡ Some (between_of s.references (first + k * (s.between + 1)) (first + min (k * (s.between + 1) + (s.between + 1)) (len - 1)) (g - 1))
coded_between n s g first len k j is some =
    let before = before_place n s g first len k j is in
    let after = after_place n s g first len k j is in
    let of : ℕ → ℕ → Option Planned = λ a b. Some (between_of s.references a b (g - 1)) in
    between_item n s g first len k j is some ∙ ap₂ of before after
