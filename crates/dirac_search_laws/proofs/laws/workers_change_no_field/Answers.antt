use Rattle.dirac_search.proofs.Workers.{field_same}
use Rattle.dirac_search_laws.proofs.laws.workers_change_no_field.Goals as goal

pub returns : goal.returns
returns c = field_same
