use Rattle.std.proofs.Common.{◌≡◌, ◌*◌, ◌≤◌, length}
use Rattle.dirac_common.proofs.Rows.{RowsFilled}
use Rattle.dirac_synthesis.specs.LastLevel.{HasMade, last_residual}
use Rattle.dirac_synthesis.specs.Sums.{IsStripOf}
use Rattle.dirac_synthesis.proofs.StripRows.{sum_in}
use Rattle.dirac_synthesis.proofs.sums.sum_rows.Given as goal

abbrev pub invariant-loop-y : goal.invariant-loop-y
invariant-loop-y g l = record {
  made : HasMade l.level l.y l.lines;
  work : length l.work ≡ 2 * l.level.low.width;
  line : length l.line ≡ 2 * l.level.low.width;
  across : l.plane.width ≡ l.level.width;
  down : l.plane.height ≡ l.level.height;
  strip : IsStripOf (g.P.PredictsRows.predicted l.predictions) l.strip;
  begun : l.strip.first ≤ l.y;
  rows : RowsFilled (sum_in (last_residual l.level) (g.P.PredictsRows.predicted l.predictions).values) l.plane.width l.plane.height l.plane.values l.y;
}
