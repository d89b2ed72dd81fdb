use Rattle.std.proofs.Common.{◌+◌, arith, ap, ◌∙◌}
use Rattle.dirac_search.specs.Rows.{sub_row_apart}
use Rattle.dirac_search.proofs.Stopping.{ended, stopped, sums_more}
use Rattle.dirac_search.proofs.sub_sums.sub_below_by_rows.Goals as goal

pub returns-then-sum-limit : goal.returns-then-sum-limit
returns-then-sum-limit c = stopped _ _ 1048560 _ c.rows.k _ _ c.rows.invariant.sums c.if-sum-limit.true (omega arith) c.requires.tried.window.rows (omega arith)

pub rows-preserved : goal.rows-preserved
rows-preserved c =
    let t = c.args.tried in record {
      sums =
          sums_more _ _ 1048560 c.rows.k _ _ c.rows.invariant.sums
          (c.sum_sub_row-sum.ensures.value ∙ ap (sub_row_apart c.args.source.now c.args.up.now c.args.precision t.window.x (t.window.y + c.rows.k) t.v) c.rows.invariant.samples)
          (omega (arith, c.sum_sub_row-sum.ensures.at_most_65535_each, c.rows.invariant.samples, c.requires.tried.window.columns));
      samples = c.sum_sub_row-sum.auto.samples ∙ c.rows.invariant.samples;
    }

pub returns : goal.returns
returns c = ended _ _ 1048560 _ c.rows.k _ _ _ c.rows.invariant.sums (omega arith) c.if_below.ensures
