use Rattle.std.proofs.Common.{◌+◌, pos, get_or, arith, refl, ap, ◌∙◌}
use Rattle.dirac_common.specs.Table.{table_at}
use Rattle.dirac_common.proofs.Rows.{row_at, rows_more, rows_all}
use Rattle.dirac_analysis.proofs.narrow.half_rows.Goals as goal

pub loop-y-preserved : goal.loop-y-preserved
loop-y-preserved c = record {
  across = c.loop-y.invariant.across;
  down = c.loop-y.invariant.down;
  rows =
      rows_more (λ x y. table_at c.args.rows.now (c.args.from + x) y) _ _ _ c.loop-y.y (c.loop-y.y + 1) _ c.loop-y.invariant.rows (omega arith) refl (omega arith)
      (λ x l.
      c.copy_from.ensures x (omega (arith, l))
      ∙ ap (λ zs. get_or zs (c.args.from + x) (pos 0)) c.row.ensures.value
      ∙ row_at c.args.rows.now (c.args.from + x) c.loop-y.y (omega (arith, l, c.loop-y.invariant.across, c.requires.from)));
}

pub returns : goal.returns
returns c =
    rows_all (λ x y. table_at c.args.rows.now (c.args.from + x) y) c.loop-y.band _ _ c.loop-y.y c.loop-y.invariant.across c.loop-y.invariant.down (omega arith) (omega arith) c.loop-y.invariant.rows
