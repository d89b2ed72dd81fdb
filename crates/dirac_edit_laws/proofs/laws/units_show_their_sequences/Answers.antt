use Rattle.dirac_edit_laws.proofs.Walking.{units_shown}
use Rattle.dirac_edit_laws.proofs.laws.units_show_their_sequences.Goals as goal

pub returns : goal.returns
returns c = units_shown
