use Rattle.dirac_search.specs.Candidates.{near}
use Rattle.dirac_search.proofs.Lists.{row_more}
use Rattle.dirac_search.proofs.around.push_row.Goals as goal

pub loop-x-preserved : goal.loop-x-preserved
loop-x-preserved c =
    row_more (near c.args.centre c.args.reach) c.args.y c.loop-x.x c.args.list.now c.loop-x.list c.push.new.self _
    c.loop-x.invariant c.in_ok-push.ensures.pushed c.neighbour.ensures
