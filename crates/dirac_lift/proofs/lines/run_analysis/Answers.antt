use Rattle.std.proofs.Common.{rules}
use Rattle.dirac_lift.proofs.Liftables.{line_can, line_ran}
use Rattle.dirac_lift.proofs.lines.run_analysis.Goals as goal

pub analyse-requires-clause-runs : goal.analyse-requires-clause-runs
analyse-requires-clause-runs c = line_can _ _ c.requires.even c.requires.safe

pub returns : goal.returns
returns c = let ran = line_ran _ _ _ c.analyse.ensures in search rules
