use Rattle.std.proofs.Common.{arith, ap₂, ◌∙◌}
use Rattle.dirac_costs.specs.Sums.{sum_below}
use Rattle.dirac_search.specs.Rows.{apart_at}
use Rattle.dirac_search.proofs.Stopping.{ended, stopped, sums_begun, sums_more}
use Rattle.dirac_search.proofs.byte_sums.rows_below.Goals as goal

pub rows-init : goal.rows-init
rows-init c = sums_begun _ _ _ c.requires.tried.at_most_66300

pub returns-then-sum-tried : goal.returns-then-sum-tried
returns-then-sum-tried c = stopped _ _ 2040 _ c.rows.k _ _ c.rows.invariant c.if-sum-tried.true (omega arith) c.requires.tried.window.rows (omega arith)

pub rows-preserved : goal.rows-preserved
rows-preserved c =
    sums_more _ _ 2040 c.rows.k _ _ c.rows.invariant
    (c.eight_apart-sum.ensures.value ∙ ap₂ (λ m n. sum_below (apart_at c.args.a.now m c.args.b.now n) 8) c.row_start.ensures c.row_start-in-rows.ensures)
    c.eight_apart-sum.ensures.at_most_2040

pub returns : goal.returns
returns c = ended _ _ 2040 _ c.rows.k _ _ _ c.rows.invariant (omega arith) c.if_below.ensures
