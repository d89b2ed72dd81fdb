use Rattle.dirac_refs.proofs.Least.{leaves_first}
use Rattle.dirac_refs.proofs.laws.least_leaves_first.Goals as goal

pub returns : goal.returns
returns c = leaves_first
