use Rattle.dirac_choice_laws.proofs.Insides.{coded_inside}
use Rattle.dirac_choice_laws.proofs.laws.coded_vectors_keep_inside.Goals as goal

pub returns : goal.returns
returns c = coded_inside c.plans_can_be_coded.ensures
