use Rattle.std.proofs.Common.{◌≡◌, length}
use Rattle.dirac_lift.specs.Lifting.{weighted}
use Rattle.dirac_lift.specs.Halves.{half_read}
use Rattle.dirac_lift.proofs.halves.weighted_inside.Given as goal

abbrev pub invariant-loop-k : goal.invariant-loop-k
invariant-loop-k l = l.sum ≡ weighted l.taps (half_read l.fn.step.lead 1 (length l.other) l.other l.n 0) l.k
