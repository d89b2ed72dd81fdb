-- Plans are near to the order of numbers.
use Rattle.std.proofs.Common.{◌≡◌, ℕ, zero, suc, ◌+◌, ◌-◌, ◌/◌, ◌%◌, ◌<◌, ◌≤◌, min, List, [], ◌∷◌, None, Some, map, length, slice_get, refl, ap, ◌∙◌, sym, arith, sum_by, inl, inr}
use Rattle.std.specs.List.{flat_map, range_with_len}
use Rattle.std.proofs.lemmas.Bool.{cases_eq}
use Rattle.std.proofs.lemmas.List.FromFn.{length-range_with_len}
use Rattle.std.proofs.lemmas.Option.{slice_get_within}
use Rattle.std.proofs.lemmas.List.Sums.{sum_by-cons}
use Rattle.dirac_types.specs.declared.settings.Settings.{Settings}
use Rattle.dirac_plan.specs.declared.planned.Planned.{Planned}
use Rattle.dirac_plan.specs.Plan.{opening_of, anchor_of, between_of, anchor_offset, second_of_anchor, retired_of, fields_of, frames_plan}
use Rattle.dirac_plan.proofs.Accepted.{paced}
use Rattle.dirac_plan.proofs.Numbers.{of_number, sum_frames, anchor_number, between_number}
use Rattle.dirac_plan.proofs.Items.{IsPlace, each_of, place_of, length_frames, opening_item, anchor_item, between_item, after_place}
use Rattle.dirac_plan_laws.specs.References.{planned_number}
use Rattle.dirac_plan_laws.specs.Order.{IsNearOrder, PlansAreNear}
use Rattle.dirac_plan_laws.proofs.Fields.{frame_at, of_plan, sum_fields_plan}

-- the item at a place, which is at most one place late
record NearItem (n : ℕ) (s : Settings) (g : ℕ) : Type 0 where
  pub item : Planned
  pub at : slice_get (frames_plan n s) g ≡ Some item
  pub near : g ≤ item.number + 1

near_step : (n : ℕ) (s : Settings) (g first len k j : ℕ) → IsPlace n s g first len k j → NearItem n s g
near_step n s g first len zero zero is =
    let a : ℕ = first + anchor_offset s len 1 in
    let r = after_place n s g first len 0 0 is in
    let number = anchor_number a (first + anchor_offset s len 0) (second_of_anchor s first 0) (retired_of s len first 0) in
    record { item = anchor_of a (first + anchor_offset s len 0) (second_of_anchor s first 0) (retired_of s len first 0); at = anchor_item n s g first len 0 is; near = omega (arith, is.place, is.in_plan, is.len_is, is.in_group) }
near_step n s g first len (suc k) zero is =
    let a : ℕ = first + anchor_offset s len (suc (suc k)) in
    let r = after_place n s g first len (suc k) 0 is in
    let number = anchor_number a (first + anchor_offset s len (suc k)) (second_of_anchor s first (suc k)) (retired_of s len first (suc k)) in
    record { item = anchor_of a (first + anchor_offset s len (suc k)) (second_of_anchor s first (suc k)) (retired_of s len first (suc k)); at = anchor_item n s g first len (suc k) is; near = omega (arith, is.place, is.in_plan, is.len_is, is.in_group) }
near_step n s g first len k (suc j) is =
    let number = between_number s.references (first + anchor_offset s len k) (first + anchor_offset s len (suc k)) (g - 1) in
    record { item = between_of s.references (first + anchor_offset s len k) (first + anchor_offset s len (suc k)) (g - 1); at = between_item n s g first len k (suc j) is (omega arith); near = omega arith }

near_item : (n : ℕ) (s : Settings) (g : ℕ) → g < n → 0 < s.gop → NearItem n s g
near_item n s g h some = elim (cases_eq (g % s.gop) 0) [
  | inl opens ↦ record { item = opening_of s g; at = opening_item n s g h some opens; near = omega arith }
  | inr other ↦
      near_step n s g (g - g % s.gop) (min s.gop (n - (g - g % s.gop))) ((g % s.gop - 1) / (s.between + 1)) ((g % s.gop - 1) % (s.between + 1))
      (place_of n s g (min s.gop (n - (g - g % s.gop))) h some (omega (arith, other)) refl)
]

sum_numbers : (f : ℕ → ℕ) (xs : List Planned) → sum_by f (map planned_number xs) ≡ sum_by (of_number f) xs
sum_numbers f [] = refl
sum_numbers f (x ∷ xs) =
    let left = sum_by-cons f x.number (map planned_number xs) in
    let right = sum_by-cons (of_number f) x xs in
    let rest = sum_numbers f xs in
    omega arith

-- the planned picture of a number
pub item_at : (planned : List Planned) (place k : ℕ) → slice_get (map planned_number planned) place ≡ Some k → (p : Planned) × (slice_get planned place ≡ Some p) × (p.number ≡ k)
item_at [] place k e = let s : None ≡ Some k = e in absurd (cc)
item_at (p ∷ planned) zero k e = let s : Some p.number ≡ Some k = e in (p, refl, cc)
item_at (p ∷ planned) (suc place) k e = item_at planned place k e

-- planned pictures that have each number below n once
once_long : (xs : List Planned) (n : ℕ) → ((f : ℕ → ℕ) → sum_by (of_number f) xs ≡ sum_by f (range_with_len 0 n)) → length (map planned_number xs) ≡ n
once_long xs n once =
    sym (each_of (map planned_number xs)) ∙ sum_numbers (λ _. 1) xs ∙ once (λ _. 1) ∙ each_of (range_with_len 0 n) ∙ length-range_with_len 0 n

near_order : (xs : List Planned) (n : ℕ) → ((f : ℕ → ℕ) → sum_by (of_number f) xs ≡ sum_by f (range_with_len 0 n))
    → ((place : ℕ) (x : Planned) → slice_get xs place ≡ Some x → place ≤ x.number + 4) → IsNearOrder (map planned_number xs)
near_order xs n once near = record {
  once = λ f. sum_numbers f xs ∙ once f ∙ ap (λ m. sum_by f (range_with_len 0 m)) (sym (once_long xs n once));
  near = λ place m e. let item = item_at xs place m e in omega (arith, near place item.0 item.1, item.2);
}

-- a frame is at most one place late
frame_near : (n : ℕ) (s : Settings) (place : ℕ) (f : Planned) → 0 < s.gop → slice_get (frames_plan n s) place ≡ Some f → place ≤ f.number + 1
frame_near n s place f some at =
    let inside : place < n = omega (arith, slice_get_within (frames_plan n s) place f at, length_frames n s some) in
    let is = near_item n s place inside some in
    let both : Some is.item ≡ Some f = sym is.at ∙ at in
    let same : is.item ≡ f = cc in
    let number : is.item.number ≡ f.number = ap planned_number same in
    omega (arith, is.near)

-- a field at most two
fields_near : (n : ℕ) (s : Settings) (place : ℕ) (x : Planned) → 0 < s.gop → slice_get (flat_map (fields_of n) (frames_plan ((n + 1) / 2) s)) place ≡ Some x → place ≤ x.number + 2
fields_near n s place x some at =
    let is = frame_at n (frames_plan ((n + 1) / 2) s) place x at in
    let near = frame_near ((n + 1) / 2) s is.frame_place is.frame some is.at in
    omega (arith, is.near)

pub plans_near : PlansAreNear
plans_near s n accepted =
    let some = (paced s accepted).gop_least in
    let fields : List Planned = flat_map (fields_of n) (frames_plan ((n + 1) / 2) s) in
    of_plan (λ xs. IsNearOrder (map planned_number xs)) n s
    (near_order (frames_plan n s) n (λ f. sum_frames f n s some) (λ place x at. omega (arith, frame_near n s place x some at)))
    (near_order fields n (λ f. sum_fields_plan f n s some) (λ place x at. omega (arith, fields_near n s place x some at)))
