use Rattle.dirac_lift.specs.Wavelets.{synth}
use Rattle.dirac_lift.proofs.RowLemmas.{RowsBelow}
use Rattle.dirac_lift.proofs.levels.synth_rows.Given as goal

abbrev pub invariant-loop-y : goal.invariant-loop-y
invariant-loop-y l = RowsBelow (synth l.wavelet) l.width l.fn.values l.values l.y
