use Rattle.std.proofs.Common.{arith, ap}
use Rattle.dirac_upconvert.specs.HalfSamples.{half}
use Rattle.dirac_upconvert.proofs.Halves.{is_up}
use Rattle.dirac_upconvert.proofs.plane.without_halves.Goals as goal

pub invariant_of-result : goal.invariant_of-result
invariant_of-result c =
    is_up c.args.plane.now (half c.in_ok-samples.samples) _ _ (ap half (c.in_ok-samples.ensures {u = tt})) c.width.ensures.value c.height.ensures.value
    (omega (arith, c.width.ensures.value, c.width.ensures.at_least_1), c.requires.across) (omega (arith, c.height.ensures.value, c.height.ensures.at_least_1), c.requires.down) c.requires.samples
