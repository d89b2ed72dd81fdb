use Rattle.std.proofs.Common.{◌≡◌, ◌*◌, length}
use Rattle.dirac_common.proofs.Rows.{RowsFilled}
use Rattle.dirac_synthesis.specs.LastLevel.{HasMade, last_residual}
use Rattle.dirac_synthesis.specs.Strips.{sample_at}
use Rattle.dirac_synthesis.proofs.strips.clip_rows.Given as goal

abbrev pub invariant-loop-y : goal.invariant-loop-y
invariant-loop-y l = record {
  made : HasMade l.level l.y l.lines;
  work : length l.work ≡ 2 * l.level.low.width;
  line : length l.line ≡ 2 * l.level.low.width;
  across : l.plane.width ≡ l.level.width;
  down : l.plane.height ≡ l.level.height;
  rows : RowsFilled (sample_at l.others (last_residual l.level)) l.plane.width l.plane.height l.plane.values l.y;
}
