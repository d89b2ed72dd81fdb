use Rattle.std.proofs.Common.{◌≡◌}
use Rattle.dirac_lift.specs.Lifting.{value_read, weighted}
use Rattle.dirac_lift.proofs.step.weighted_clamped.Given as goal

abbrev pub invariant-loop-k : goal.invariant-loop-k
invariant-loop-k l = l.sum ≡ weighted l.taps (value_read l.step.parity l.step.lead l.line l.n) l.k
