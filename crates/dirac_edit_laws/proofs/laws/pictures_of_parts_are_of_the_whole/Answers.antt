use Rattle.dirac_edit_laws.proofs.Alike.{parts_of_whole}
use Rattle.dirac_edit_laws.proofs.laws.pictures_of_parts_are_of_the_whole.Goals as goal

pub returns : goal.returns
returns c = parts_of_whole
