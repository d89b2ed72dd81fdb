use Rattle.dirac_edit_laws.proofs.Later.{later_leave_later}
use Rattle.dirac_edit_laws.proofs.laws.greater_keys_leave_later.Goals as goal

pub returns : goal.returns
returns c = later_leave_later
