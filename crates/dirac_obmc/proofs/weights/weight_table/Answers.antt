use Rattle.std.proofs.Common.{◌*◌, arith, refl}
use Rattle.dirac_obmc.proofs.WeightLists.{weights_none, weights_more, weights_all}
use Rattle.dirac_obmc.proofs.weights.weight_table.Goals as goal

pub loop-place-init : goal.loop-place-init
loop-place-init c = weights_none _ _ _ (c.args.blocks.count * c.args.blocks.length) _ c.in_ok-weights.ensures refl

pub loop-place-preserved : goal.loop-place-preserved
loop-place-preserved c =
    weights_more _ _ _ c.loop-place.place _ _ _ c.loop-place.invariant (omega arith) refl c.weight_in_list.ensures.value c.weight_in_list.ensures.at_most_8

pub returns : goal.returns
returns c = weights_all _ _ _ c.loop-place.place _ c.loop-place.invariant (omega arith)
