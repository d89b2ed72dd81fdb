use Rattle.std.proofs.Common.{◌^◌, ◌*◌, arith}
use Rattle.dirac_analysis.proofs.Fitting.{all_under}
use Rattle.dirac_analysis.proofs.Undone.{differences_are}
use Rattle.dirac_analysis.proofs.levels.less_predictions.Goals as goal

pub returns-clause-value : goal.returns-clause-value
returns-clause-value c =
    differences_are c.args.low c.dc_subtract.new.ll (omega (arith, c.width.ensures.value, c.width.ensures.at_least_1)) c.width.ensures.whole c.dc_subtract.ensures.sums

pub returns-clause-fits : goal.returns-clause-fits
returns-clause-fits c =
    let sums = c.dc_subtract.ensures.sums in
    record {
      across = omega (arith, sums.width, c.requires.across);
      down = omega (arith, sums.height, c.requires.down);
      small = all_under (2 * 2 ^ 36) (2 ^ 38) c.dc_subtract.new.ll.values (omega arith) (c.dc_subtract.ensures.growth (2 ^ 36) c.requires.magnitudes_at_most_2_36);
    }
