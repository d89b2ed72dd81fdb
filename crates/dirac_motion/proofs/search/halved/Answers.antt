use Rattle.std.proofs.Common.{arith}
use Rattle.dirac_types.proofs.Accepted.{in_range}
use Rattle.dirac_motion.proofs.search.halved.Goals as goal

pub returns-clause-first : goal.returns-clause-first
returns-clause-first c = let range = in_range c.args.settings.now c.requires.settings in (omega arith, omega (arith, range.workers.1))

pub returns-clause-second : goal.returns-clause-second
returns-clause-second c = let range = in_range c.args.settings.now c.requires.settings in (omega arith, omega (arith, range.workers.1))
