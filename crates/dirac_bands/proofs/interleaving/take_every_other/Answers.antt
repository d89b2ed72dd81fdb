use Rattle.std.proofs.Common.{arith}
use Rattle.dirac_bands.proofs.Interleaves.{every_other_all}
use Rattle.dirac_bands.proofs.interleaving.take_every_other.Goals as goal

pub returns : goal.returns
returns c = every_other_all _ _ _ (omega arith) (λ k l. c.loop-n.invariant k (omega arith))
