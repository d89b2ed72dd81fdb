use Rattle.dirac_decide.proofs.Lawful.{decided_lawful}
use Rattle.dirac_decide.proofs.laws.decided_tables_are_lawful.Goals as goal

pub returns : goal.returns
returns c = decided_lawful
