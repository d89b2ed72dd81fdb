use Rattle.std.proofs.Common.{◌≡◌}
use Rattle.dirac_lift.specs.Lifting.{weighted}
use Rattle.dirac_lift.specs.Rings.{ring_read}
use Rattle.dirac_lift.proofs.rings.weighted_in_ring.Given as goal

abbrev pub invariant-loop-k : goal.invariant-loop-k
invariant-loop-k l = l.sum ≡ weighted l.taps (ring_read l.step.lead l.size.width l.size.half l.other l.n l.x) l.k
