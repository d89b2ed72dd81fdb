use Rattle.std.proofs.Common.{◌+◌, ◌*◌}
use Rattle.dirac_search.specs.Candidates.{near}
use Rattle.dirac_search.proofs.Lists.{rows_more, rows_none}
use Rattle.dirac_search.proofs.around.push_around.Goals as goal

pub loop-y-init : goal.loop-y-init
loop-y-init c = rows_none _ _ _

pub loop-y-preserved : goal.loop-y-preserved
loop-y-preserved c =
    rows_more (2 * c.args.reach + 1) c.loop-y.y (near c.args.centre c.args.reach)
    c.args.list.now c.loop-y.list c.push_row.new.list c.loop-y.invariant c.in_ok-push_row.ensures
