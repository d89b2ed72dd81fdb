use Rattle.std.proofs.Common.{◌≡◌, ℕ, ◌+◌, List, [], ◌∷◌, ◌++◌, Some, take, slice_get, ap₂, sym, ◌∙◌, arith}
use Rattle.std.proofs.lemmas.List.{take_more, take_all}
use Rattle.std.proofs.lemmas.Option.{get_or_from_slice_get, slice_get_within}
use Rattle.dirac_plan.specs.Plan.{plan}
use Rattle.dirac_plan.proofs.Accepted.{paced}
use Rattle.dirac_plan.proofs.Fields.{length_plan}
use Rattle.dirac_plan.proofs.order.plan.Goals as goal

-- a front with one item more
longer_front : {X : Type 0} (xs ys zs : List X) (i : ℕ) (x : X) → zs ≡ ys ++ x ∷ [] → ys ≡ take i xs → slice_get xs i ≡ Some x → zs ≡ take (i + 1) xs
longer_front {X} xs ys zs i x pushed front at =
    let of : List X → X → List X = λ l y. l ++ y ∷ [] in
    pushed ∙ ap₂ of front (sym (get_or_from_slice_get xs i x x at)) ∙ sym (take_more xs i x (slice_get_within xs i x at))

pub places-preserved : goal.places-preserved
places-preserved c =
    longer_front (plan c.args.count c.args.settings.now) c.places.planned.items _ c.places.place c.item_of.result c.in_ok-push.ensures.items c.places.invariant
    (sym c.item_of.ensures)

pub returns : goal.returns
returns c =
    let s = c.args.settings.now in
    let p = paced s c.requires.settings in
    let long = length_plan c.args.count s p.gop_least in
    c.places.invariant ∙ take_all c.places.place (plan c.args.count s) (omega arith)
