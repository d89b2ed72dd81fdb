use Rattle.dirac_plan_laws.proofs.LastingPictures as lasting
use Rattle.dirac_plan_laws.proofs.laws.items_last.Goals as goal

pub returns : goal.returns
returns c = lasting.items_last
