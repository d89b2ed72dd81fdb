use Rattle.std.proofs.Common.{◌≡◌, ◌-◌, min}
use Rattle.dirac_common.specs.Table.{table_at}
use Rattle.dirac_common.proofs.Rows.{RowsFilled}
use Rattle.dirac_analysis.proofs.padding.pad.Given as goal

abbrev pub invariant-loop-y : goal.invariant-loop-y
invariant-loop-y l = record {
  across : l.table.width ≡ l.width;
  down : l.table.height ≡ l.height;
  rows : RowsFilled (λ x y. table_at l.plane (min x (l.plane.width - 1)) (min y (l.plane.height - 1))) l.table.width l.table.height l.table.values l.y;
}
