use Rattle.dirac_content.proofs.Leaves.{leaves_first}
use Rattle.dirac_content.proofs.laws.what_leaves_is_shown.Goals as goal

pub returns : goal.returns
returns c = leaves_first
