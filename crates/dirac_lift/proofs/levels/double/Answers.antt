use Rattle.std.proofs.Common.{arith}
use Rattle.dirac_lift.proofs.MapLemmas.{mapped_all}
use Rattle.dirac_lift.proofs.levels.double.Goals as goal

pub returns : goal.returns
returns c = mapped_all _ _ _ c.loop-i.i c.loop-i.invariant (omega arith)
