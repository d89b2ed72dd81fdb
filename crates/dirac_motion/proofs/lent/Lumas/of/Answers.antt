use Rattle.std.proofs.Common.{ap}
use Rattle.std.specs.Option.{option_copied}
use Rattle.dirac_motion.proofs.lent.Lumas.of.Goals as goal

pub luma_of-requires-in-Some : goal.luma_of-requires-in-Some
luma_of-requires-in-Some c = c.requires.second c.in-Some.second.now (ap option_copied c.in-Some.is)
