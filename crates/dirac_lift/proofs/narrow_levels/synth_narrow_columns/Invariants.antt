use Rattle.dirac_lift.proofs.NarrowLevels.{ColumnsRan}
use Rattle.dirac_lift.proofs.narrow_levels.synth_narrow_columns.Given as goal

abbrev pub invariant-loop-x : goal.invariant-loop-x
invariant-loop-x l = ColumnsRan l.wavelet l.width l.height l.fn.values l.values l.x
