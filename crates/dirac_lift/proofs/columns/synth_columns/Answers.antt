use Rattle.std.proofs.Common.{rules}
use Rattle.dirac_lift.proofs.Liftables.{columns_can, columns_ran}
use Rattle.dirac_lift.proofs.Runs.{synth_fit}
use Rattle.dirac_lift.proofs.columns.synth_columns.Goals as goal

pub synthesise-requires-clause-runs : goal.synthesise-requires-clause-runs
synthesise-requires-clause-runs c = columns_can _ _ (synth_fit c.args.wavelet c.requires.wavelet) c.requires.len c.requires.even c.requires.safe

pub returns : goal.returns
returns c = let ran = columns_ran _ _ _ c.synthesise.ensures in search rules
