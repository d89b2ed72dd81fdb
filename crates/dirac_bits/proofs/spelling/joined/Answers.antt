use Rattle.std.proofs.Common.{arith}
use Rattle.dirac_bits.proofs.Runs.{bits_below-both}
use Rattle.dirac_bits.proofs.Writes.{bits_joined}
use Rattle.dirac_bits.proofs.spelling.joined.Goals as goal

pub overflow_add-result-2 : goal.overflow_add-result-2
overflow_add-result-2 c =
    let parts = bits_joined c.args.used c.args.pending c.args.run.count c.args.run.number c.requires.pending.0 c.requires.pending.1 c.requires.at_most_80 c.requires.fits in
    rw (c.from.ensures, parts.0) (omega (arith, parts.2))

pub returns-clause-bits : goal.returns-clause-bits
returns-clause-bits c =
    let parts = bits_joined c.args.used c.args.pending c.args.run.count c.args.run.number c.requires.pending.0 c.requires.pending.1 c.requires.at_most_80 c.requires.fits in
    rw (c.from.ensures, parts.0) (bits_below-both c.args.used c.args.run.count c.args.pending c.args.run.number c.requires.fits)

pub returns-clause-fits : goal.returns-clause-fits
returns-clause-fits c =
    let parts = bits_joined c.args.used c.args.pending c.args.run.count c.args.run.number c.requires.pending.0 c.requires.pending.1 c.requires.at_most_80 c.requires.fits in
    rw (c.from.ensures, parts.0) parts.1
