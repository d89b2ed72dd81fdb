-- Coding as a planner gives pictures.
use Rattle.std.proofs.Common.{◌≡◌, ℕ, ◌+◌, ◌≤◌, Bool, true, false, List, [], ◌∷◌, ◌++◌, Some, map, take, drop, slice_get, get_or, refl, ap, ap₂, subst, ◌∙◌, sym, arith}
use Rattle.std.proofs.lemmas.List.{drop_more, take_more, map-append, take_all}
use Rattle.std.proofs.lemmas.Option.{get_or_from_slice_get, slice_get_within}
use Rattle.dirac_common.specs.declared.picture.Picture.{Picture}
use Rattle.dirac_types.specs.declared.settings.Settings.{Settings}
use Rattle.dirac_refs.specs.Delivery.{LeastLeavesFirst}
use Rattle.dirac_plan.specs.declared.planned.Planned.{Planned}
use Rattle.dirac_plan.specs.Plan.{plan}
use Rattle.dirac_plan.specs.Planning.{IsLasting, Planning}
use Rattle.dirac_plan.specs.Waiting.{number_of}
use Rattle.dirac_plan.proofs.Accepted.{paced}
use Rattle.dirac_plan.proofs.Fields.{length_plan}
use Rattle.dirac_plan_laws.specs.Coding.{AcceptsCoding, EndsCoding, GoesOnCoding, IsCoding, IsTotal, StartsCoding, WaitsCoding}
use Rattle.dirac_plan_laws.specs.References.{AreListed, ArePlanned, AreServed, list_with, planned_number}
use Rattle.dirac_plan_laws.proofs.Delivering.{plans_delivered}
use Rattle.dirac_plan_laws.proofs.ServingFields.{plans_served}

pub starts : StartsCoding
starts s = record { order = λ n _. refl; served = λ n _. plans_served s n }

pub accepts : AcceptsCoding
accepts p picture coded list going is =
    let of_old : (n : ℕ) → p.accepted + 1 ≤ n → IsTotal p n = λ n more. record { least = omega arith; ended = λ e. absurd (cc) } in
    record { order = λ n t. is.order n (of_old n t.least); served = λ n t. is.served n (of_old n t.least) }

pub waits : WaitsCoding
waits p ended coded list kept is = record {
  order = λ n t. is.order n (record { least = t.least; ended = λ e. t.ended (kept e) });
  served = λ n t. is.served n (record { least = t.least; ended = λ e. t.ended (kept e) });
}

-- the item that is given is that of each plan of so many pictures as there may be
same_item : (old : Planning) (ended : Bool) (x : Planned) → slice_get (plan old.accepted old.settings) old.given ≡ Some x → (ended ≡ false → IsLasting old x)
    → (n : ℕ) → old.accepted ≤ n → (ended ≡ true → n ≡ old.accepted) → slice_get (plan n old.settings) old.given ≡ Some x
same_item old true x at lasts n more e = let same = e refl in subst (λ m. slice_get (plan m old.settings) old.given ≡ Some x) (sym same) at
same_item old false x at lasts n more e = lasts refl n more

front_item : (xs : List Planned) (g : ℕ) (x : Planned) → slice_get xs g ≡ Some x → (drop g xs ≡ x ∷ drop (g + 1) xs) × (take (g + 1) xs ≡ take g xs ++ x ∷ [])
front_item xs g x at =
    let inside = slice_get_within xs g x at in
    let here : get_or xs g x ≡ x = get_or_from_slice_get xs g x x at in
    (drop_more xs g x inside ∙ ap (λ y. y ∷ drop (g + 1) xs) here, take_more xs g x inside ∙ ap (λ y. take g xs ++ y ∷ []) here)

pub goes_on : GoesOnCoding
goes_on ended old new x picture coded list kept takes is = (listed, next)
  where
    of_old : (n : ℕ) → old.accepted ≤ n → (ended ≡ true → n ≡ old.accepted) → IsTotal old n
    of_old n more e = record { least = more; ended = λ o. e (kept o) }

    served : (n : ℕ) → old.accepted ≤ n → (ended ≡ true → n ≡ old.accepted) → AreServed list (x ∷ drop (old.given + 1) (plan n old.settings))
    served n more e =
        let at = same_item old ended x takes.next takes.lasting n more e in
        subst (AreServed list) (front_item (plan n old.settings) old.given x at).0 (is.served n (of_old n more e))

    listed : AreListed list x
    listed = (served old.accepted (omega arith) (λ _. refl)).0

    coded_next : (c : Picture) → c.number ≡ x.number → (n : ℕ) → old.accepted ≤ n → (ended ≡ true → n ≡ old.accepted)
        → map number_of (coded ++ c ∷ []) ≡ map planned_number (take (old.given + 1) (plan n old.settings))
    coded_next c number n more e =
        let at = same_item old ended x takes.next takes.lasting n more e in
        let items = (front_item (plan n old.settings) old.given x at).1 in
        map-append number_of coded (c ∷ [])
        ∙ ap₂ (λ (l : List ℕ) (m : ℕ). l ++ m ∷ []) (is.order n (of_old n more e)) number
        ∙ sym (ap (map planned_number) items ∙ map-append planned_number (take old.given (plan n old.settings)) (x ∷ []))

    -- a planner with these settings and as many given
    by_fields : (c : Picture) → c.number ≡ x.number → (s : Settings) (accepted given : ℕ) (told : Bool) (waiting : List Picture)
        → s ≡ old.settings → accepted ≡ old.accepted → given ≡ old.given + 1 → told ≡ ended
        → IsCoding (record { settings = s; accepted = accepted; given = given; ended = told; waiting = waiting }) (coded ++ c ∷ []) (list_with list x c)
    by_fields c number s accepted given told waiting e f g h =
        let total : (n : ℕ) → accepted ≤ n → old.accepted ≤ n = λ n more. omega arith in
        let Front : Settings → ℕ → ℕ → Type 0 = λ t k n. ArePlanned (take k (plan n t)) (coded ++ c ∷ []) in
        let Rest : Settings → ℕ → ℕ → Type 0 = λ t k n. AreServed (list_with list x c) (drop k (plan n t)) in
        let end : (n : ℕ) → (told ≡ true → n ≡ accepted) → ended ≡ true → n ≡ old.accepted = λ n is is_end. is (h ∙ is_end) ∙ f in
        record {
          order = λ n t. subst (λ u. Front u given n) (sym e) (subst (λ k. Front old.settings k n) (sym g) (coded_next c number n (total n t.least) (end n t.ended)));
          served = λ n t. subst (λ u. Rest u given n) (sym e) (subst (λ k. Rest old.settings k n) (sym g) ((served n (total n t.least) (end n t.ended)).1 c number));
        }

    next : (c : Picture) → c.number ≡ x.number → IsCoding new (coded ++ c ∷ []) (list_with list x c)
    next c number = by_fields c number new.settings new.accepted new.given new.ended new.waiting takes.settings takes.accepted takes.given takes.told

pub ends : LeastLeavesFirst → EndsCoding
ends law p coded list accepted few all is =
    let n : ℕ = p.accepted in
    let s = p.settings in
    let long = length_plan n s (paced s accepted).gop_least in
    let whole : ArePlanned (plan n s) coded = is.order n (record { least = omega arith; ended = λ _. refl }) ∙ ap (map planned_number) (take_all p.given (plan n s) (omega arith)) in
    (whole, plans_delivered law s n coded accepted few whole)
