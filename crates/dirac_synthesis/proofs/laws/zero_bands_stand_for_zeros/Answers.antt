use Rattle.dirac_synthesis.proofs.ZeroBands.{zeros_stand}
use Rattle.dirac_synthesis.proofs.laws.zero_bands_stand_for_zeros.Goals as goal

pub returns : goal.returns
returns c = record { zeros = zeros_stand }
