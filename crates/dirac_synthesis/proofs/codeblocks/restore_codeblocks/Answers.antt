use Rattle.std.proofs.Common.{◌≡◌, ◌+◌, arith, ap, refl, ◌∙◌}
use Rattle.dirac_common.specs.Table.{Table, row_of, table_at}
use Rattle.dirac_common.proofs.Rows.{rows_more, rows_all}
use Rattle.dirac_quant.specs.Quantiser.{restored}
use Rattle.dirac_synthesis.specs.Codeblocks.{index_in}
use Rattle.dirac_synthesis.proofs.ByCodeblock.{by_place}
use Rattle.dirac_synthesis.proofs.codeblocks.restore_codeblocks.Goals as goal

pub loop-y-preserved : goal.loop-y-preserved
loop-y-preserved c =
    let b = c.args.band.now in
    let across : c.in_ok-table.table.width ≡ b.table.width = ap (λ (t : Table). t.width) c.in_ok-table.ensures in
    let down : c.in_ok-table.table.height ≡ b.table.height = ap (λ (t : Table). t.height) c.in_ok-table.ensures in
    record {
      across = c.loop-y.invariant.across;
      down = c.loop-y.invariant.down;
      rows =
          rows_more (λ x y. restored (table_at b.table x y) (index_in c.args.counts b x y) c.args.kind) _ _ _ c.loop-y.y (c.loop-y.y + 1) _ c.loop-y.invariant.rows (omega arith) refl (omega arith)
          (λ x l. by_place c.args.kind c.args.counts b x c.loop-y.y c.first_codeblock-first.result c.height-height.result c.row-coded.result.now _ (c.row-coded.ensures.value ∙ ap (λ (t : Table). row_of t c.loop-y.y) c.in_ok-table.ensures) (c.row-coded.ensures.len ∙ across) (c.height-height.ensures.value ∙ down)
          c.first_codeblock-first.ensures.value (omega (arith, l, c.loop-y.invariant.across)) c.restore_row.ensures);
    }

pub returns : goal.returns
returns c =
    let b = c.args.band.now in
    let across : c.in_ok-table.table.width ≡ b.table.width = ap (λ (t : Table). t.width) c.in_ok-table.ensures in
    let down : c.in_ok-table.table.height ≡ b.table.height = ap (λ (t : Table). t.height) c.in_ok-table.ensures in
    rows_all (λ x y. restored (table_at b.table x y) (index_in c.args.counts b x y) c.args.kind) c.loop-y.plane b.table.width b.table.height c.loop-y.y
    c.loop-y.invariant.across c.loop-y.invariant.down (omega arith) (omega arith) c.loop-y.invariant.rows
