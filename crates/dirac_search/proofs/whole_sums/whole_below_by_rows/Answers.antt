use Rattle.std.proofs.Common.{◌+◌, arith, ap, ◌∙◌}
use Rattle.dirac_search.specs.Rows.{whole_row_apart}
use Rattle.dirac_search.proofs.Stopping.{ended, stopped, sums_begun, sums_more}
use Rattle.dirac_search.proofs.whole_sums.whole_below_by_rows.Goals as goal

pub rows-init : goal.rows-init
rows-init c = sums_begun _ _ _ c.requires.tried.at_most_66300

pub returns-then-sum-limit : goal.returns-then-sum-limit
returns-then-sum-limit c = stopped _ _ 1048560 _ c.rows.k _ _ c.rows.invariant c.if-sum-limit.true (omega arith) c.requires.tried.window.rows (omega arith)

pub rows-preserved : goal.rows-preserved
rows-preserved c =
    let t = c.args.tried in
    sums_more _ _ 1048560 c.rows.k _ _ c.rows.invariant
    (c.sum_whole_row-sum.ensures.value ∙ ap (whole_row_apart c.args.source.now c.args.reference.now t.window.x (t.window.y + c.rows.k) t.v) c.requires.of_the_window)
    (omega (arith, c.sum_whole_row-sum.ensures.at_most_65535_each, c.requires.columns.at_most_16))

pub returns : goal.returns
returns c = ended _ _ 1048560 _ c.rows.k _ _ _ c.rows.invariant (omega arith) c.if_below.ensures
