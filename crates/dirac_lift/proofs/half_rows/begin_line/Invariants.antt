use Rattle.dirac_lift.specs.Level.{first_doubled}
use Rattle.dirac_lift.proofs.NarrowLevels.{TakenBelow}
use Rattle.dirac_lift.proofs.half_rows.begin_line.Given as goal

abbrev pub invariant-loop-n : goal.invariant-loop-n
invariant-loop-n l = TakenBelow (first_doubled l.fn.wavelet l.line) l.low l.high l.n
