use Rattle.std.proofs.Common.{ap}
use Rattle.std.specs.Option.{option_copied}
use Rattle.dirac_motion.proofs.lent.Lumas.by_workers.Goals as goal

pub lumas_side_by_side-requires-clause-second : goal.lumas_side_by_side-requires-clause-second
lumas_side_by_side-requires-clause-second g c κs within = c.requires.second c.in-Some.other.now (ap option_copied c.in-Some.is)
