use Rattle.std.proofs.Common.{rules}
use Rattle.dirac_lift.proofs.Liftables.{halves_can, halves_ran}
use Rattle.dirac_lift.proofs.half_lines.analyse_halves.Goals as goal

pub analyse-requires-clause-runs : goal.analyse-requires-clause-runs
analyse-requires-clause-runs c = halves_can _ _ c.requires.narrow

pub returns : goal.returns
returns c = let ran = halves_ran _ _ _ c.requires.narrow c.analyse.ensures in search rules
