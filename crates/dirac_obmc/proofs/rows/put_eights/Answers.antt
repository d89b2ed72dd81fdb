use Rattle.std.proofs.Common.{arith, refl}
use Rattle.dirac_obmc.proofs.RunWeights.{weights_all, weights_more, weights_none}
use Rattle.dirac_obmc.proofs.rows.put_eights.Goals as goal

pub loop-k-init : goal.loop-k-init
loop-k-init c = weights_none _ _ _

pub loop-k-preserved : goal.loop-k-preserved
loop-k-preserved c = weights_more _ _ c.loop-k.k _ _ _ _ c.loop-k.invariant (omega arith) refl refl

pub returns : goal.returns
returns c = weights_all _ _ c.loop-k.k _ _ _ c.loop-k.invariant (omega arith)
