use Rattle.std.proofs.Common.{◌≡◌}
use Rattle.dirac_lift.specs.Lifting.{weighted}
use Rattle.dirac_lift.specs.Halves.{half_read}
use Rattle.dirac_lift.proofs.halves.weighted_clamped.Given as goal

abbrev pub invariant-loop-k : goal.invariant-loop-k
invariant-loop-k l = l.sum ≡ weighted l.taps (half_read l.step.lead l.width l.half l.other l.n l.x) l.k
