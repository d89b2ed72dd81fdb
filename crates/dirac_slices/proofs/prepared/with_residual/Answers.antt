use Rattle.std.proofs.Common.{Some, ap, refl}
use Rattle.dirac_slices.proofs.prepared.with_residual.Goals as goal

pub unfinished_of-requires-clause-sequence : goal.unfinished_of-requires-clause-sequence
unfinished_of-requires-clause-sequence c = c.requires.inter.sequence

pub unfinished_of-requires-clause-fits : goal.unfinished_of-requires-clause-fits
unfinished_of-requires-clause-fits c = c.requires.inter.residual

pub returns-clause-residual : goal.returns-clause-residual
returns-clause-residual c = ap Some c.in_ok-made.ensures

pub returns-clause-up : goal.returns-clause-up
returns-clause-up c = refl
