use Rattle.std.proofs.Common.{
  ◌∙◌,
  ap,
  [],
  ◌∷◌,
  ◌++◌,
}
use Rattle.dirac_refs.specs.Bounded.{contents}
use Rattle.dirac_refs.proofs.Places.{filled_push, pushed}
use Rattle.dirac_refs.proofs.bounded.Bounded.push.Goals as goal

pub invariant_of-self : goal.invariant_of-self
invariant_of-self g c = rw c.push.ensures.items (filled_push c.self.inside.places.items c.args.item c.self.invariant)

pub returns : goal.returns
returns g c =
    ap contents c.push.ensures.items
    ∙ pushed c.self.inside.places.items c.args.item
    ∙ ap (λ t. t ++ c.args.item ∷ []) c.self.view_is
