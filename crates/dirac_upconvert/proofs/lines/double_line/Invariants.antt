use Rattle.dirac_upconvert.proofs.Doubling.{HalvesBelow}
use Rattle.dirac_upconvert.proofs.lines.double_line.Given as goal

abbrev pub invariant-left : goal.invariant-left
invariant-left l = HalvesBelow l.line l.out l.i

abbrev pub invariant-inside : goal.invariant-inside
invariant-inside l = HalvesBelow l.line l.out l.i

abbrev pub invariant-right : goal.invariant-right
invariant-right l = HalvesBelow l.line l.out l.i
