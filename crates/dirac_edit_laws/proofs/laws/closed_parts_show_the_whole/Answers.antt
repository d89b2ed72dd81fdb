use Rattle.dirac_edit_laws.proofs.Closed.{anywhere, closed_parts}
use Rattle.dirac_edit_laws.proofs.laws.closed_parts_show_the_whole.Goals as goal

pub returns-clause-shown : goal.returns-clause-shown
returns-clause-shown c = closed_parts

pub returns-clause-begin : goal.returns-clause-begin
returns-clause-begin c = anywhere
