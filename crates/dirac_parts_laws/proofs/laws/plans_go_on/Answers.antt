use Rattle.dirac_parts_laws.proofs.Plans.{plans_on}
use Rattle.dirac_parts_laws.proofs.laws.plans_go_on.Goals as goal

pub returns : goal.returns
returns c = plans_on
