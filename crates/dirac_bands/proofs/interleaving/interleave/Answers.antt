use Rattle.std.proofs.Common.{rules, arith, pos, slice_index_or}
use Rattle.std.specs.Int.{w128}
use Rattle.std.proofs.lemmas.Int.{to_z-of_z}
use mir.Val.{SFits}
use Rattle.dirac_bands.proofs.Interleaves.{two_more, interleaved_all}
use Rattle.dirac_bands.proofs.interleaving.interleave.Goals as goal

pub loop-n-preserved : goal.loop-n-preserved
loop-n-preserved c =
    let even : SFits w128 (slice_index_or c.args.even.now c.loop-n.n (pos 0)) = search rules in
    let odd : SFits w128 (slice_index_or c.args.odd.now c.loop-n.n (pos 0)) = search rules in
    two_more _ _ _ c.loop-n.n _ _ c.loop-n.invariant (omega arith) (to_z-of_z w128 _ even) (to_z-of_z w128 _ odd)

pub returns : goal.returns
returns c = interleaved_all _ _ _ (omega arith) (λ x l. c.loop-n.invariant x (omega arith))
