use Rattle.dirac_edit_laws.proofs.Alike.{closed_alike}
use Rattle.dirac_edit_laws.proofs.laws.closed_pictures_are_alike.Goals as goal

pub returns : goal.returns
returns c = closed_alike
