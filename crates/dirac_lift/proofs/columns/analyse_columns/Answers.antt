use Rattle.std.proofs.Common.{rules}
use Rattle.dirac_lift.proofs.Liftables.{columns_can, columns_ran}
use Rattle.dirac_lift.proofs.Runs.{analyse_fit}
use Rattle.dirac_lift.proofs.columns.analyse_columns.Goals as goal

pub analyse-requires-clause-runs : goal.analyse-requires-clause-runs
analyse-requires-clause-runs c = columns_can _ _ (analyse_fit c.args.wavelet c.requires.wavelet) c.requires.len c.requires.even c.requires.safe

pub returns : goal.returns
returns c = let ran = columns_ran _ _ _ c.analyse.ensures in search rules
