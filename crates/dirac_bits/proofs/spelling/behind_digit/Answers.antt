use Rattle.std.proofs.Common.{refl, arith}
use Rattle.dirac_bits.proofs.Runs.{digit_before}
use Rattle.dirac_bits.proofs.spelling.behind_digit.Goals as goal

pub overflow_add-result-2 : goal.overflow_add-result-2
overflow_add-result-2 c =
    let parts = digit_before c.args.run.count c.args.digit c.args.run.number c.requires.digit c.requires.at_most_75 c.requires.fits in
    rw (c.from.ensures, parts.0) (omega (arith, parts.2))

pub returns-clause-number : goal.returns-clause-number
returns-clause-number c =
    let parts = digit_before c.args.run.count c.args.digit c.args.run.number c.requires.digit c.requires.at_most_75 c.requires.fits in
    rw (c.from.ensures, parts.0) refl

pub returns-clause-fits : goal.returns-clause-fits
returns-clause-fits c =
    let parts = digit_before c.args.run.count c.args.digit c.args.run.number c.requires.digit c.requires.at_most_75 c.requires.fits in
    rw (c.from.ensures, parts.0) parts.1
