use Rattle.std.proofs.Common.{arith}
use Rattle.dirac_lift.specs.Wavelets.{analyse}
use Rattle.dirac_lift.proofs.HalfAnalysis.{back_narrow, back_narrow_rows}
use Rattle.dirac_lift.proofs.HalfBounds.{ran_alone}
use Rattle.dirac_lift.proofs.half_lines.analyse_half_line.Goals as goal

pub analyse_halves-requires-clause-narrow : goal.analyse_halves-requires-clause-narrow
analyse_halves-requires-clause-narrow c =
    back_narrow c.args.wavelet 8190 _ _ _ _ (back_narrow_rows c.args.wavelet c.requires.wavelet) (omega arith) (omega arith) (omega (arith, c.requires.alike)) c.requires.low_at_most_8190 c.requires.high_at_most_8190

pub returns : goal.returns
unfolding analyse
returns c line a = ran_alone _ _ _ _ _ line c.analyse_halves.ensures c.requires.alike a
