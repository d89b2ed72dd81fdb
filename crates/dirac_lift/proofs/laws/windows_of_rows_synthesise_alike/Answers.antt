use Rattle.dirac_lift.proofs.Windows.{windows_have_rows, windows_have_strips}
use Rattle.dirac_lift.proofs.laws.windows_of_rows_synthesise_alike.Goals as goal

pub returns-clause-rows : goal.returns-clause-rows
returns-clause-rows c = windows_have_rows

pub returns-clause-strips : goal.returns-clause-strips
returns-clause-strips c = windows_have_strips
