use Rattle.dirac_obmc.proofs.Rounding.{rounded_is, rounded_short}
use Rattle.dirac_obmc.proofs.values.rounded.Goals as goal

pub returns-clause-value : goal.returns-clause-value
returns-clause-value c =
    rw (c.from.ensures, c.from-2.ensures) (rounded_is c.args.sum c.args.bits c.requires.bits.1 c.requires.sum)

pub returns-clause-short : goal.returns-clause-short
returns-clause-short c =
    rw (c.from.ensures, c.from-2.ensures, rounded_is c.args.sum c.args.bits c.requires.bits.1 c.requires.sum)
    (rounded_short c.args.sum c.args.bits c.requires.bits.0 c.requires.bits.1 c.requires.sum)
