use Rattle.std.proofs.Common.{Option, refl, subst}
use Rattle.std.specs.Prelude.{IfSome}
use Rattle.dirac_slices.specs.declared.planes.ThreePlanes.{ThreePlanes}
use Rattle.dirac_slices.specs.Bands.{AreLawfulPlanes}
use Rattle.dirac_slices.proofs.Oriented.{residual_fits}
use Rattle.dirac_slices.proofs.planes.read_planes_rows.Goals as goal

pub read_apart-requires-clause-sizes : goal.read_apart-requires-clause-sizes
read_apart-requires-clause-sizes g c κs within = record { luma = c.requires.luma; chroma = c.requires.chroma }

pub returns-in-Some-clause-fits : goal.returns-in-Some-clause-fits
returns-in-Some-clause-fits g c =
    let s = c.args.sequence.now in
    let t = c.args.transform in
    let lawful = subst (λ (o : Option ThreePlanes). IfSome o (AreLawfulPlanes s t)) c.in-Some.is c.in_ok-read_apart.ensures.lawful in
    residual_fits s t c.in-Some.planes _ c.requires.transform lawful refl
