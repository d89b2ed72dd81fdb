use Rattle.dirac_obmc.proofs.Flat.{flat}
use Rattle.dirac_obmc.proofs.weights.dc_blocks_predict_their_value.Goals as goal

pub returns : goal.returns
returns c = flat
