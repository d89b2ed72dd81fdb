use Rattle.dirac_plan_laws.proofs.Plans.{plans_coded}
use Rattle.dirac_plan_laws.proofs.laws.plans_can_be_coded.Goals as goal

pub returns : goal.returns
returns c = plans_coded c.least_leaves_first.ensures
