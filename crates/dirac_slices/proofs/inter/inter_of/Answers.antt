use Rattle.std.proofs.Common.{refl, sym}
use Rattle.dirac_slices.proofs.inter.inter_of.Goals as goal

pub returns-clause-sequence : goal.returns-clause-sequence
returns-clause-sequence c = refl

pub returns-clause-motion : goal.returns-clause-motion
returns-clause-motion c = refl

pub returns-clause-residual : goal.returns-clause-residual
returns-clause-residual c = refl

pub returns-clause-first : goal.returns-clause-first
returns-clause-first c = sym c.in-Some.ensures

pub returns-clause-second : goal.returns-clause-second
returns-clause-second c = c.named_reference-second.ensures
