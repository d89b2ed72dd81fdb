use Rattle.std.proofs.Common.{arith, ◌∙◌}
use Rattle.dirac_lift.proofs.RowLemmas.{rows_more, length-row}
use Rattle.dirac_lift.proofs.levels.analyse_rows.Goals as goal

pub loop-y-preserved : goal.loop-y-preserved
loop-y-preserved c =
    rows_more _ c.args.width c.args.height _ _ c.loop-y.y _ _ c.loop-y.invariant c.requires.len (omega arith) (omega arith)
    (omega (arith, c.analyse_line.auto.line, length-row c.loop-y.values c.args.width c.args.height c.loop-y.y (c.loop-y.invariant.len ∙ c.requires.len) (omega arith)))
    c.analyse_line.ensures.value
