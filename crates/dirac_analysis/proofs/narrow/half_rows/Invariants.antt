use Rattle.std.proofs.Common.{◌≡◌, ◌+◌, ◌/◌}
use Rattle.dirac_common.specs.Table.{table_at}
use Rattle.dirac_common.proofs.Rows.{RowsFilled}
use Rattle.dirac_analysis.proofs.narrow.half_rows.Given as goal

abbrev pub invariant-loop-y : goal.invariant-loop-y
invariant-loop-y l = record {
  across : l.band.width ≡ l.rows.width / 2;
  down : l.band.height ≡ l.rows.height;
  rows : RowsFilled (λ x y. table_at l.rows (l.from + x) y) l.band.width l.band.height l.band.values l.y;
}
