use Rattle.std.proofs.Common.{◌≡◌, ◌+◌}
use Rattle.dirac_common.specs.Table.{table_at}
use Rattle.dirac_common.proofs.Rows.{RowsFilled}
use Rattle.dirac_synthesis.proofs.cut.cut_narrow.Given as goal

abbrev pub invariant-loop-y : goal.invariant-loop-y
invariant-loop-y l = record {
  across : l.part.width ≡ l.width;
  down : l.part.height ≡ l.height;
  rows : RowsFilled (λ x y. table_at l.table x (l.first + y)) l.part.width l.part.height l.part.values l.y;
}
