use Rattle.std.proofs.Common.{◌≡◌, ◌+◌, ◌*◌, ◌/◌, pos, slice_index_or}
use Rattle.dirac_common.proofs.Rows.{RowsFilled}
use Rattle.dirac_lift.specs.HalfRows.{column_of}
use Rattle.dirac_lift.specs.Level.{first_doubled, row_in}
use Rattle.dirac_lift.specs.Wavelets.{analyse}
use Rattle.dirac_lift.proofs.half_rows.analyse_rows_from.Given as goal

abbrev pub invariant-loop-y : goal.invariant-loop-y
invariant-loop-y l = record {
  across : l.rows.width ≡ l.plane.width;
  down : l.rows.height ≡ l.plane.height / 2;
  rows : RowsFilled (λ x y. slice_index_or (analyse l.fn.wavelet (first_doubled l.fn.wavelet (row_in l.plane.values l.plane.width (2 * y + l.fn.first)))) (column_of l.plane.width x) (pos 0)) l.rows.width l.rows.height l.rows.values l.y;
}
