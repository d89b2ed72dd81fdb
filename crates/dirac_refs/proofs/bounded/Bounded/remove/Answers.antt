use Rattle.std.proofs.Common.{◌∙◌, ap, arith, length}
use Rattle.std.specs.List.{remove}
use Rattle.dirac_refs.specs.Bounded.{contents}
use Rattle.dirac_refs.proofs.Places.{filled_remove, gap, removed}
use Rattle.dirac_refs.proofs.bounded.Bounded.remove.Goals as goal

pub unreachable-requires : goal.unreachable-requires
unreachable-requires g c =
    gap c.self.inside.places.items c.args.place c.remove.result c.self.invariant
    (omega (arith, ap length c.self.view_is))
    c.remove.ensures.value
    c.in-None.is

pub invariant_of-self : goal.invariant_of-self
invariant_of-self g c =
    rw c.remove.ensures.items (filled_remove c.self.inside.places.items c.args.place c.self.invariant)

pub returns-clause-rest : goal.returns-clause-rest
returns-clause-rest g c =
    ap contents c.remove.ensures.items
    ∙ removed c.self.inside.places.items c.args.place c.self.invariant
    ∙ ap (λ t. remove t c.args.place) c.self.view_is
