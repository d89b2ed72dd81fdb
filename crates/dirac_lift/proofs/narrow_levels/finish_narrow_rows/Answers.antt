use Rattle.std.proofs.Common.{ℤ, List, arith, sym, subst, ◌∙◌}
use Rattle.dirac_lift.specs.HalfRuns.{IsNarrowLine}
use Rattle.dirac_lift.proofs.RowLemmas.{rows_more, length-row}
use Rattle.dirac_lift.proofs.narrow_levels.finish_narrow_rows.Goals as goal

pub finish_line-requires-clause-narrow : goal.finish_line-requires-clause-narrow
finish_line-requires-clause-narrow c =
    subst (λ (line : List ℤ). IsNarrowLine c.args.wavelet line) (sym (c.loop-y.invariant.rest c.loop-y.y (omega arith))) (c.requires.narrow c.loop-y.y c.loop-y-test.true)

pub loop-y-preserved : goal.loop-y-preserved
loop-y-preserved c =
    rows_more _ c.args.width c.args.height _ _ c.loop-y.y _ _ c.loop-y.invariant c.requires.len (omega arith) (omega arith)
    (omega (arith, c.finish_line.auto.line, length-row c.loop-y.values c.args.width c.args.height c.loop-y.y (c.loop-y.invariant.len ∙ c.requires.len) (omega arith)))
    c.finish_line.ensures
