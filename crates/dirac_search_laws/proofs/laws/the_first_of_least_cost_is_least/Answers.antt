use Rattle.dirac_search_laws.proofs.Least.{first_of_least}
use Rattle.dirac_search_laws.proofs.laws.the_first_of_least_cost_is_least.Goals as goal

pub returns : goal.returns
returns g c = λ cost item others. first_of_least cost item others
