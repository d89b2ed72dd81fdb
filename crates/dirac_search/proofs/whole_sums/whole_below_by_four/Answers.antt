use Rattle.std.proofs.Common.{pos, ◌+◌, ◌*◌, ◌+ℤ◌, ◌-ℤ◌, arith, refl, ap, sym, ◌∙◌}
use Rattle.std.proofs.lemmas.Int.{ints}
use Rattle.dirac_search.proofs.InLanes.{four_more_rows}
use Rattle.dirac_search.proofs.Differences.{plain_component}
use Rattle.dirac_search.proofs.Stopping.{ended, stopped, sums_begun, sums_four_more}
use Rattle.dirac_search.proofs.whole_sums.whole_below_by_four.Goals as goal

pub fours-init : goal.fours-init
fours-init c = sums_begun _ _ _ c.requires.tried.at_most_66300

pub returns-then-sum-limit : goal.returns-then-sum-limit
returns-then-sum-limit c = stopped _ _ 524280 _ (4 * c.fours.k) _ _ c.fours.invariant c.if-sum-limit.true (omega arith) c.requires.tried.window.rows (omega arith)

pub fours-preserved : goal.fours-preserved
fours-preserved c =
    let t = c.args.tried in
    let y = t.window.y + 4 * c.fours.k in
    let down = c.moved_inside-down.result + 4 * c.fours.k in
    sums_four_more _ _ 524280 c.fours.k _ _ c.fours.invariant
    (four_more_rows c.args.source.now c.args.reference.now t.window t.v c.moved_inside-across.result (pos down -ℤ pos y) c.fours.k (c.fours.k + 1) c.four_rows-sum.result y
    refl (sym c.moved_inside-across.ensures ∙ ap (λ q. pos t.window.x +ℤ q) (plain_component t.v.x c.requires.tried.v.across))
    (omega (arith, ints, c.moved_inside-down.ensures, plain_component t.v.y c.requires.tried.v.down)) c.requires.fours.eight_columns refl c.four_rows-sum.ensures.value)
    (omega (arith, c.four_rows-sum.ensures.at_most_2097120))

pub returns : goal.returns
returns c = ended _ _ 524280 _ (4 * c.fours.k) _ _ _ c.fours.invariant (omega (arith, c.requires.fours.fours_of_rows)) c.if_below.ensures
