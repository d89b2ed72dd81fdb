use Rattle.dirac_decide_laws.proofs.Choices.{modes_least, splits_least, vectors_least}
use Rattle.dirac_decide_laws.proofs.laws.choices_are_first_of_least_cost.Goals as goal

pub returns : goal.returns
returns c = record { vectors = vectors_least; modes = modes_least; splits = splits_least }
