use Rattle.std.proofs.Common.{◌+◌, ◌*◌}
use Rattle.dirac_bands.proofs.Predictions.{DifferencesFrom}
use Rattle.dirac_bands.proofs.dc.subtract_predictions.Given as goal

abbrev pub invariant-loop-y : goal.invariant-loop-y
invariant-loop-y l = DifferencesFrom l.width l.fn.values l.values (l.y * l.width)

abbrev pub invariant-loop-x : goal.invariant-loop-x
invariant-loop-x l = DifferencesFrom l.width l.fn.values l.values (l.y * l.width + l.x)
