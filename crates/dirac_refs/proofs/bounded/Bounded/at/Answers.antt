use Rattle.std.proofs.Common.{◌∙◌, ap, arith, get_or, length}
use Rattle.dirac_refs.proofs.Places.{gap}
use Rattle.dirac_refs.proofs.bounded.Bounded.at.Goals as goal

pub unreachable-requires : goal.unreachable-requires
unreachable-requires g c =
    gap c.self.inside.places.items c.args.place c.index-as_slice-place.result c.self.invariant
    (omega (arith, ap length c.self.view_is))
    (c.index-as_slice-place.is ∙ ap (λ t. get_or t c.args.place c.index-as_slice-place.result) c.as_slice.ensures.value)
    c.in-None.is
