use Rattle.dirac_obmc.proofs.SixtyFour.{sixty_four}
use Rattle.dirac_obmc.proofs.weights.weights_sum_to_64.Goals as goal

pub returns : goal.returns
returns c = sixty_four
