use Rattle.dirac_edit_laws.proofs.Restricted.{parts_restricted}
use Rattle.dirac_edit_laws.proofs.laws.parts_keep_their_lists.Goals as goal

pub returns : goal.returns
returns c = parts_restricted
