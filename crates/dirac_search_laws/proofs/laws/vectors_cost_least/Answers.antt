use Rattle.dirac_search_laws.proofs.Fields.{fields_cost_least}
use Rattle.dirac_search_laws.proofs.laws.vectors_cost_least.Goals as goal

pub returns : goal.returns
returns c = fields_cost_least
