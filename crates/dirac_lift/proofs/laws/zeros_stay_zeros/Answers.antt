use Rattle.dirac_lift.proofs.ZerosKept.{levels_stay_zeros, lines_stay_zeros}
use Rattle.dirac_lift.proofs.laws.zeros_stay_zeros.Goals as goal

pub returns-clause-lines : goal.returns-clause-lines
returns-clause-lines c = lines_stay_zeros

pub returns-clause-levels : goal.returns-clause-levels
returns-clause-levels c = levels_stay_zeros
