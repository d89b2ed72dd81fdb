use Rattle.dirac_obmc.proofs.WeightLists.{WeightsBelow}
use Rattle.dirac_obmc.proofs.weights.weight_table.Given as goal

abbrev pub invariant-loop-place : goal.invariant-loop-place
invariant-loop-place l = WeightsBelow l.blocks.count l.blocks.length l.blocks.separation l.weights.items l.place
