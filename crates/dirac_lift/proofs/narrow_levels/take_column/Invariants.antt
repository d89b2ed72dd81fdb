use Rattle.dirac_lift.specs.Level.{column}
use Rattle.dirac_lift.proofs.NarrowLevels.{TakenBelow}
use Rattle.dirac_lift.proofs.narrow_levels.take_column.Given as goal

abbrev pub invariant-loop-n : goal.invariant-loop-n
invariant-loop-n l = TakenBelow (column l.values l.width l.height l.x) l.low l.high l.n
