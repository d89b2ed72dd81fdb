use Rattle.dirac_lift.specs.Level.{last_halved}
use Rattle.dirac_lift.specs.Wavelets.{synth}
use Rattle.dirac_lift.proofs.RowLemmas.{RowsBelow}
use Rattle.dirac_lift.proofs.narrow_levels.finish_narrow_rows.Given as goal

abbrev pub invariant-loop-y : goal.invariant-loop-y
invariant-loop-y l = RowsBelow (λ line. last_halved l.wavelet (synth l.wavelet line)) l.width l.fn.values l.values l.y
