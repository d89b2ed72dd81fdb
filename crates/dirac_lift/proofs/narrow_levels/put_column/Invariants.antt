use Rattle.dirac_lift.proofs.NarrowLevels.{ColumnPut}
use Rattle.dirac_lift.proofs.narrow_levels.put_column.Given as goal

abbrev pub invariant-loop-n : goal.invariant-loop-n
invariant-loop-n l = ColumnPut l.width l.height l.x l.low l.high l.fn.values l.values l.n
