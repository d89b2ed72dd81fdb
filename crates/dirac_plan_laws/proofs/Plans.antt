-- What an encoder relies on in every plan.
use Rattle.std.proofs.Common.{◌≡◌, ℕ, true, ◌<◌, List, [], ◌∷◌, Some, map, length, slice_get, refl, ap, sym, ◌∙◌, arith, sum_by}
use Rattle.std.specs.List.{range_with_len}
use Rattle.std.proofs.lemmas.List.{length-map}
use Rattle.dirac_refs.specs.Delivery.{LeastLeavesFirst}
use Rattle.dirac_types.specs.declared.settings.Settings.{Settings}
use Rattle.dirac_common.specs.Codes.{is_intra}
use Rattle.dirac_plan.specs.declared.planned.Planned.{Planned}
use Rattle.dirac_plan.specs.Plan.{field_of, opening_of, plan}
use Rattle.dirac_plan.specs.Waiting.{number_of}
use Rattle.dirac_plan.proofs.Accepted.{paced}
use Rattle.dirac_plan.proofs.Fields.{length_plan}
use Rattle.dirac_plan.proofs.Items.{opening_item}
use Rattle.dirac_plan_laws.specs.Headers.{IsPlanned}
use Rattle.dirac_plan_laws.specs.Order.{by_number}
use Rattle.dirac_plan_laws.specs.Plans.{BeginsPlan, PlansCanBeCoded}
use Rattle.dirac_plan_laws.specs.References.{planned_number}
use Rattle.dirac_plan_laws.proofs.Counts.{only, stands, times_inside}
use Rattle.dirac_plan_laws.proofs.Delivering.{plans_delivered}
use Rattle.dirac_plan_laws.proofs.Each.{each_more}
use Rattle.dirac_plan_laws.proofs.Fields.{of_plan}
use Rattle.dirac_plan_laws.proofs.Headers.{IsPlannedOf, plan_planned}
use Rattle.dirac_plan_laws.proofs.LastingFields.{opening_field}
use Rattle.dirac_plan_laws.proofs.Near.{item_at, plans_near}
use Rattle.dirac_plan_laws.proofs.ServingFields.{plans_found}

-- each number is a planned picture's
number_stands : (planned : List Planned) (n k : ℕ) → length planned ≡ n
    → ((weight : ℕ → ℕ) → sum_by weight (map planned_number planned) ≡ sum_by weight (range_with_len 0 (length (map planned_number planned)))) → k < n
    → (i : ℕ) × (p : Planned) × (slice_get planned i ≡ Some p) × (p.number ≡ k)
number_stands planned n k count weights below =
    let numbers = map planned_number planned in
    let long = length-map planned planned_number in
    let one = times_inside k 0 (length numbers) (omega arith) (omega arith) in
    let all = weights (only k) in
    let place = stands k numbers (omega arith) in
    let item = item_at planned place.0 k place.1 in
    (place.0, item.0, item.1, item.2)

begins_so : (planned : List Planned) → (0 < length planned → (x : Planned) × (slice_get planned 0 ≡ Some x) × (is_intra x.code ≡ true) × (x.number ≡ 0)) → BeginsPlan planned
begins_so [] first = tt
begins_so (p ∷ planned) first =
    let is = first (omega arith) in
    let e : Some p ≡ Some is.0 = is.1 in
    let same : p ≡ is.0 = cc in
    rw same (is.2, is.3)

first_item : (s : Settings) (n : ℕ) → 0 < n → 0 < s.gop → (x : Planned) × (slice_get (plan n s) 0 ≡ Some x) × (is_intra x.code ≡ true) × (x.number ≡ 0)
first_item s n more some =
    of_plan (λ xs. (x : Planned) × (slice_get xs 0 ≡ Some x) × (is_intra x.code ≡ true) × (x.number ≡ 0)) n s
    (opening_of s 0, opening_item n s 0 more some (omega arith), refl, refl)
    (field_of n 0 (opening_of s 0), opening_field n s 0 0 some (omega arith) (omega arith) (omega arith), refl, refl)

pub plans_coded : LeastLeavesFirst → PlansCanBeCoded
plans_coded law s n accepted few =
    let some = (paced s accepted).gop_least in
    let planned = plan_planned s n some (omega arith) in
    let long = length_plan n s some in
    record {
      count = long;
      each = each_more (IsPlannedOf n) IsPlanned (plan n s) (λ p is. is.planned) planned;
      below = each_more (IsPlannedOf n) (λ (p : Planned). p.number < n) (plan n s) (λ p is. is.below) planned;
      all = λ k below. number_stands (plan n s) n k long (plans_near s n accepted).once below;
      begins = begins_so (plan n s) (λ more. first_item s n (omega arith) some);
      found = λ pictures are. plans_found s n pictures are;
      order = λ pictures are.
          let count : length pictures ≡ n = sym (length-map pictures number_of) ∙ ap length are ∙ length-map (plan n s) planned_number ∙ long in
          (plans_delivered law s n pictures accepted few are).all ∙ ap (λ m. by_number m pictures) count;
    }
