use Rattle.std.proofs.Common.{◌+◌, pos, get_or, arith, refl, ap, ◌∙◌}
use Rattle.std.proofs.lemmas.List.{get_or-take}
use Rattle.dirac_common.specs.Table.{table_at}
use Rattle.dirac_common.proofs.Rows.{rows_more, rows_all, row_at}
use Rattle.dirac_synthesis.proofs.cut.cut_wide.Goals as goal

pub loop-y-preserved : goal.loop-y-preserved
loop-y-preserved c = record {
  across = c.loop-y.invariant.across;
  down = c.loop-y.invariant.down;
  rows =
      rows_more _ _ _ _ c.loop-y.y (c.loop-y.y + 1) _ c.loop-y.invariant.rows (omega arith) refl (omega arith)
      (λ x l.
      ap (λ zs. get_or zs x (pos 0)) c.copy_from_slice.ensures.after
      ∙ get_or-take c.args.width c.row-from.result.now x (pos 0) (omega (arith, l))
      ∙ ap (λ zs. get_or zs x (pos 0)) c.row-from.ensures.value
      ∙ row_at c.args.table.now x (c.args.first + c.loop-y.y) (omega (arith, l)));
}

pub returns : goal.returns
returns c =
    rows_all (λ x y. table_at c.args.table.now x (c.args.first + y)) c.loop-y.part c.args.width c.args.height c.loop-y.y
    c.loop-y.invariant.across c.loop-y.invariant.down (omega arith) (omega arith) c.loop-y.invariant.rows
