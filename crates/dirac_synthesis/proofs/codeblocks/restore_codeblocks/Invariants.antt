use Rattle.std.proofs.Common.{◌≡◌}
use Rattle.dirac_common.specs.Table.{table_at}
use Rattle.dirac_common.proofs.Rows.{RowsFilled}
use Rattle.dirac_quant.specs.Quantiser.{restored}
use Rattle.dirac_synthesis.specs.Codeblocks.{index_in}
use Rattle.dirac_synthesis.proofs.codeblocks.restore_codeblocks.Given as goal

abbrev pub invariant-loop-y : goal.invariant-loop-y
invariant-loop-y l = record {
  across : l.plane.width ≡ l.band.table.width;
  down : l.plane.height ≡ l.band.table.height;
  rows : RowsFilled (λ x y. restored (table_at l.band.table x y) (index_in l.counts l.band x y) l.kind) l.plane.width l.plane.height l.plane.values l.y;
}
