use Rattle.dirac_search.specs.Given.{lent}
use Rattle.dirac_search.specs.Staged.{best_at}
use Rattle.dirac_search.proofs.Lists.{row_more, row_none}
use Rattle.dirac_search.proofs.Compared.{searched_at}
use Rattle.dirac_search.proofs.stages.push_block_row.Goals as goal

pub loop-i-init : goal.loop-i-init
loop-i-init c = row_none (best_at c.args.staged.now (lent c.args.before)) c.args.j c.args.vectors.now.items

pub best_in-requires : goal.best_in-requires
best_in-requires c = searched_at c.args.staged.now (lent c.args.before) c.loop-i.i c.args.j c.requires.staged c.loop-i-test.true c.requires.row

pub loop-i-preserved : goal.loop-i-preserved
loop-i-preserved c =
    row_more (best_at c.args.staged.now (lent c.args.before)) c.args.j c.loop-i.i c.args.vectors.now.items c.loop-i.vectors.items c.push.new.self.items c.in_ok-best_in.field-0
    c.loop-i.invariant c.in_ok-push.ensures.items c.in_ok-best_in.ensures
