use Rattle.std.proofs.Common.{◌+◌, ◌*◌, pos, get_or, refl, ap, ◌∙◌, arith}
use Rattle.dirac_common.specs.Table.{table_at}
use Rattle.dirac_common.proofs.Rows.{row_at, rows_all, rows_more}
use Rattle.dirac_quant.specs.Quantiser.{reduced}
use Rattle.dirac_coeffs.specs.Indices.{index_at}
use Rattle.dirac_synthesis.specs.Codeblocks.{codeblock_of}
use Rattle.dirac_analysis.proofs.finer.reduce_codeblocks.Goals as goal

pub loop-y-preserved : goal.loop-y-preserved
loop-y-preserved c =
    let t = c.args.table.now in
    let counts = c.args.counts in
    let is = c.args.indices.now in
    let y = c.loop-y.y in
    let row = c.row.result.now in
    record {
      across = c.loop-y.invariant.across;
      down = c.loop-y.invariant.down;
      rows =
          rows_more _ _ _ _ c.loop-y.y (c.loop-y.y + 1) _ c.loop-y.invariant.rows (omega arith) refl (omega arith)
          (λ x l.
          c.reduce_row.ensures x (omega (arith, l))
          ∙ ap (λ n. reduced (get_or row x (pos 0)) (index_at is (c.first_codeblock-first.result + codeblock_of n counts.0 x))) c.row.ensures.len
          ∙ ap (λ xs. reduced (get_or xs x (pos 0)) (index_at is (c.first_codeblock-first.result + codeblock_of t.width counts.0 x))) c.row.ensures.value
          ∙ ap (λ v. reduced v (index_at is (c.first_codeblock-first.result + codeblock_of t.width counts.0 x))) (row_at t x y (omega (arith, l)))
          ∙ ap (λ f. reduced (table_at t x y) (index_at is (f + codeblock_of t.width counts.0 x))) (c.first_codeblock-first.ensures.value ∙ ap (λ h. codeblock_of h counts.1 y * counts.0) c.height-height.ensures.value));
    }

pub returns : goal.returns
returns c =
    let t = c.args.table.now in
    let counts = c.args.counts in
    let is = c.args.indices.now in
    rows_all (λ x y. reduced (table_at t x y) (index_at is (codeblock_of t.height counts.1 y * counts.0 + codeblock_of t.width counts.0 x))) c.loop-y.numbers t.width t.height c.loop-y.y c.loop-y.invariant.across c.loop-y.invariant.down
    (omega (arith, c.width.ensures.value, c.width.ensures.at_least_1)) (omega (arith, c.height-height.ensures.value)) c.loop-y.invariant.rows
