use Rattle.dirac_decide_laws.proofs.Insides.{tables_keep_inside}
use Rattle.dirac_decide_laws.proofs.laws.decided_tables_keep_inside.Goals as goal

pub returns : goal.returns
returns c = record { vectors_keep_inside = tables_keep_inside }
