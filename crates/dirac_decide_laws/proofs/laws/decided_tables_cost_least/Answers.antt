use Rattle.dirac_decide_laws.proofs.Tables.{tables_least}
use Rattle.dirac_decide_laws.proofs.laws.decided_tables_cost_least.Goals as goal

pub returns : goal.returns
returns c = tables_least
