use Rattle.dirac_synthesis.specs.Planes.{IsLowOf}
use Rattle.dirac_synthesis.proofs.plane.low_after.Given as goal

abbrev pub invariant-loop-n : goal.invariant-loop-n
invariant-loop-n l = IsLowOf l.plane l.n l.low
