use Rattle.dirac_choice_laws.proofs.Pictures.{inters_least}
use Rattle.dirac_choice_laws.proofs.laws.inter_pictures_cost_least.Goals as goal

pub returns : goal.returns
returns c = inters_least c.plans_can_be_coded.ensures
