use Rattle.std.proofs.Common.{◌≡◌, ◌+◌, ◌/◌, length}
use Rattle.dirac_common.proofs.Rows.{RowsFilled}
use Rattle.dirac_lift.specs.AtWork.{HasGiven, IsAtWork}
use Rattle.dirac_lift.proofs.HalfPlanes.{level_at}
use Rattle.dirac_lift.proofs.half_levels.put_rows.Given as goal

abbrev pub invariant-loop-y : goal.invariant-loop-y
invariant-loop-y g l = record {
  across : l.plane.width ≡ l.fn.plane.width;
  down : l.plane.height ≡ l.fn.plane.height;
  work : length l.work ≡ l.fn.plane.width;
  at_work : IsAtWork (g.S.RowPairs.evens l.source) (g.S.RowPairs.odds l.source) l.lines;
  given : HasGiven l.fn.lines.wavelet l.fn.plane.width (l.fn.plane.height / 2) ((l.y + 1) / 2) l.lines;
  rows : RowsFilled (level_at l.fn.lines.wavelet l.fn.plane.width (l.fn.plane.height / 2) (g.S.RowPairs.evens l.source) (g.S.RowPairs.odds l.source)) l.plane.width l.plane.height l.plane.values l.y;
}
