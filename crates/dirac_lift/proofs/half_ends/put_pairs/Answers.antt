use Rattle.std.proofs.Common.{arith, refl}
use Rattle.dirac_lift.proofs.HalfLemmas.{abs-read}
use Rattle.dirac_lift.proofs.PairLemmas.{pairs_all, pairs_eight, pairs_more, pairs_none}
use Rattle.dirac_lift.proofs.half_ends.put_pairs.Goals as goal

pub eights-init : goal.eights-init
eights-init c = pairs_none _ _ _ _

pub eights-preserved : goal.eights-preserved
eights-preserved c = pairs_eight _ _ _ _ _ _ c.eights.i c.eights.invariant c.put_eight_pairs.ensures

pub put_pair-requires-clause-low : goal.put_pair-requires-clause-low
put_pair-requires-clause-low c = abs-read _ c.args.low.now c.left.n c.requires.low

pub put_pair-requires-clause-high : goal.put_pair-requires-clause-high
put_pair-requires-clause-high c = abs-read _ c.args.high.now c.left.n c.requires.high

pub left-preserved : goal.left-preserved
left-preserved c = rw c.put_pair.ensures (pairs_more _ _ _ _ _ c.left.n _ _ c.left.invariant (omega arith) refl refl)

pub returns : goal.returns
returns c whole a = pairs_all _ _ _ _ whole _ c.left.n c.left.invariant c.requires.line (omega arith) a
