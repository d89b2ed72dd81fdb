use Rattle.std.proofs.Common.{◌≡◌, ◌<◌, ◌≤◌, ℕ, pos}
use Rattle.dirac_lift.specs.Rings.{ring_read}
use Rattle.dirac_lift.proofs.rings.reads_zeros.Given as goal

abbrev pub invariant-loop-k : goal.invariant-loop-k
invariant-loop-k l = (j x : ℕ) → j < l.k → l.from ≤ x → x < l.to → ring_read l.step.lead l.size.width l.size.half l.other l.n x j ≡ pos 0
