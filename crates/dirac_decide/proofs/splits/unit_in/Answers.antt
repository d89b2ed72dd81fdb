use Rattle.std.proofs.Common.{arith}
use Rattle.dirac_decide.proofs.Superblocks.{unit_fits}
use Rattle.dirac_decide.proofs.splits.unit_in.Goals as goal

pub overflow_mul-result-4 : goal.overflow_mul-result-4
overflow_mul-result-4 c =
    let fits = unit_fits c.args.split c.args.k c.units_across-units.result c.unit_blocks-size.result c.requires.split c.requires.inside c.units_across-units.ensures.value c.unit_blocks-size.ensures.value in
    omega (arith, fits.1)

pub overflow_add-result-2 : goal.overflow_add-result-2
overflow_add-result-2 c =
    let fits = unit_fits c.args.split c.args.k c.units_across-units.result c.unit_blocks-size.result c.requires.split c.requires.inside c.units_across-units.ensures.value c.unit_blocks-size.ensures.value in
    omega (arith, fits.1)

pub returns-clause-unit : goal.returns-clause-unit
returns-clause-unit c =
    let fits = unit_fits c.args.split c.args.k c.units_across-units.result c.unit_blocks-size.result c.requires.split c.requires.inside c.units_across-units.ensures.value c.unit_blocks-size.ensures.value in
    record {
      size = (c.unit_blocks-size.ensures.at_least_1, c.unit_blocks-size.ensures.at_most_4);
      inside_across = omega (arith, fits.0);
      inside_down = omega (arith, fits.1);
    }
