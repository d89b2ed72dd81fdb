use Rattle.std.proofs.Common.{◌+◌, ◌*◌}
use Rattle.dirac_bands.proofs.Predictions.{SumsBelow}
use Rattle.dirac_bands.proofs.dc.add_predictions.Given as goal

abbrev pub invariant-loop-y : goal.invariant-loop-y
invariant-loop-y l = SumsBelow l.width l.fn.values l.values (l.y * l.width)

abbrev pub invariant-loop-x : goal.invariant-loop-x
invariant-loop-x l = SumsBelow l.width l.fn.values l.values (l.y * l.width + l.x)
