use Rattle.std.proofs.Common.{sym, subst, ℤ, List}
use Rattle.std.specs.List.{All}
use Rattle.dirac_upconvert.specs.HalfSamples.{IsSample}
use Rattle.dirac_encode_planes.proofs.difference.difference.Goals as goal

pub put_differences-requires-clause-samples : goal.put_differences-requires-clause-samples
put_differences-requires-clause-samples c =
    subst (λ (xs : List ℤ). All IsSample xs) (sym c.values.ensures.value) c.requires.plane.samples
