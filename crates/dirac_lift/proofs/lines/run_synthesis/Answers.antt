use Rattle.std.proofs.Common.{rules}
use Rattle.dirac_lift.proofs.Liftables.{line_can, line_ran}
use Rattle.dirac_lift.proofs.lines.run_synthesis.Goals as goal

pub synthesise-requires-clause-runs : goal.synthesise-requires-clause-runs
synthesise-requires-clause-runs c = line_can _ _ c.requires.even c.requires.safe

pub returns : goal.returns
returns c = let ran = line_ran _ _ _ c.synthesise.ensures in search rules
