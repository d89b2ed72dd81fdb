use Rattle.std.proofs.Common.{◌≡◌, ap, sym, ◌∙◌}
use Rattle.std.specs.Option.{option_copied}
use Rattle.dirac_refs.specs.Halves.{AreHalves}
use Rattle.dirac_rebuild.proofs.compensate.kept_plane.Goals as goal

pub returns-in-Some : goal.returns-in-Some
returns-in-Some c x e =
    let same : c.half_plane.result.now ≡ x = cc in
    let kept : AreHalves c.args.reference.now c.in-Some.halves.now = c.halves.ensures c.in-Some.halves.now (ap option_copied c.in-Some.is) in
    sym same ∙ c.half_plane.ensures c.args.reference.now kept
