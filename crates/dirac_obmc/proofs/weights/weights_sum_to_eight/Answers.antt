use Rattle.dirac_obmc.proofs.Eight.{eight}
use Rattle.dirac_obmc.proofs.weights.weights_sum_to_eight.Goals as goal

pub returns : goal.returns
returns c = eight
