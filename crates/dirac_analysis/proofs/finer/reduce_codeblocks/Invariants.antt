use Rattle.std.proofs.Common.{◌≡◌, ◌+◌, ◌*◌}
use Rattle.dirac_common.specs.Table.{table_at}
use Rattle.dirac_common.proofs.Rows.{RowsFilled}
use Rattle.dirac_quant.specs.Quantiser.{reduced}
use Rattle.dirac_coeffs.specs.Indices.{index_at}
use Rattle.dirac_synthesis.specs.Codeblocks.{codeblock_of}
use Rattle.dirac_analysis.proofs.finer.reduce_codeblocks.Given as goal

abbrev pub invariant-loop-y : goal.invariant-loop-y
invariant-loop-y l = record {
  across : l.numbers.width ≡ l.table.width;
  down : l.numbers.height ≡ l.table.height;
  rows : RowsFilled
      (λ x y. reduced (table_at l.table x y) (index_at l.indices (codeblock_of l.table.height l.counts.1 y * l.counts.0 + codeblock_of l.table.width l.counts.0 x)))
      l.numbers.width l.numbers.height l.numbers.values l.y;
}
