use Rattle.std.proofs.Common.{arith}
use Rattle.dirac_bits.proofs.Writes.{bits_below-bit, bit_fits}
use Rattle.dirac_bits.proofs.spelling.before_bit.Goals as goal

pub overflow_mul-result : goal.overflow_mul-result
overflow_mul-result c =
    let fits = bit_fits c.args.run.count c.args.run.number c.args.bit c.requires.at_most_77 c.requires.fits in
    omega (arith, fits.1)

pub overflow_add-result-2 : goal.overflow_add-result-2
overflow_add-result-2 c =
    let fits = bit_fits c.args.run.count c.args.run.number c.args.bit c.requires.at_most_77 c.requires.fits in
    rw c.from.ensures (omega (arith, fits.1))

pub returns-clause-bits : goal.returns-clause-bits
returns-clause-bits c = rw c.from.ensures (bits_below-bit c.args.run.count c.args.run.number c.args.bit)

pub returns-clause-fits : goal.returns-clause-fits
returns-clause-fits c =
    let fits = bit_fits c.args.run.count c.args.run.number c.args.bit c.requires.at_most_77 c.requires.fits in
    rw c.from.ensures fits.0
