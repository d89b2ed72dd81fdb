use Rattle.dirac_choice_laws.proofs.Insides.{chosen_inside}
use Rattle.dirac_choice_laws.proofs.laws.chosen_tables_keep_inside.Goals as goal

pub returns : goal.returns
returns c = record { vectors_keep_inside = chosen_inside }
