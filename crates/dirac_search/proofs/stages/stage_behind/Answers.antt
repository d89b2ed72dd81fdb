use Rattle.std.proofs.Common.{sym}
use Rattle.dirac_search.proofs.Bounds.{behind_finer, behind_sub}
use Rattle.dirac_search.proofs.stages.stage_behind.Goals as goal

pub returns-then-n-levels : goal.returns-then-n-levels
returns-then-n-levels c = sym (behind_finer c.args.settings.now c.args.n c.if-n-levels.true)

pub returns-else-n-levels : goal.returns-else-n-levels
returns-else-n-levels c = sym (behind_sub c.args.settings.now c.args.n c.if-n-levels.false)
