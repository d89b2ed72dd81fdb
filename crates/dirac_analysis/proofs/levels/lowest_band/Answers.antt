use Rattle.std.proofs.Common.{◌^◌, arith}
use Rattle.dirac_analysis.proofs.Fitting.{all_under}
use Rattle.dirac_analysis.proofs.levels.lowest_band.Goals as goal

pub returns-in-Inter-clause-fits : goal.returns-in-Inter-clause-fits
returns-in-Inter-clause-fits c = record {
  across = c.requires.across;
  down = c.requires.down;
  small = all_under (2 ^ 36) (2 ^ 38) c.args.low.values (omega arith) c.requires.magnitudes_at_most_2_36;
}
