use Rattle.std.proofs.Common.{◌+◌, ◌*◌, arith, refl}
use Rattle.dirac_search.proofs.InLanes.{four_more_sub_rows}
use Rattle.dirac_search.proofs.Stopping.{ended, stopped, sums_begun, sums_four_more}
use Rattle.dirac_search.proofs.sub_sums.sub_below_by_four.Goals as goal

pub fours-init : goal.fours-init
fours-init c = sums_begun _ _ _ c.requires.tried.at_most_66300

pub returns-then-sum-limit : goal.returns-then-sum-limit
returns-then-sum-limit c = stopped _ _ 524280 _ (4 * c.fours.k) _ _ c.fours.invariant c.if-sum-limit.true (omega arith) c.requires.tried.window.rows (omega arith)

pub fours-preserved : goal.fours-preserved
fours-preserved c =
    sums_four_more _ _ 524280 c.fours.k _ _ c.fours.invariant
    (four_more_sub_rows c.args.source.now c.args.up.now c.args.precision c.args.tried.window c.args.tried.v c.fours.k (c.fours.k + 1) c.sum_four_sub_rows-sum.result (c.args.tried.window.y + 4 * c.fours.k)
    refl c.requires.eight_columns refl c.sum_four_sub_rows-sum.ensures.value)
    (omega (arith, c.sum_four_sub_rows-sum.ensures.at_most_2097120))

pub returns : goal.returns
returns c = ended _ _ 524280 _ (4 * c.fours.k) _ _ _ c.fours.invariant (omega (arith, c.requires.fours_of_rows)) c.if_below.ensures
