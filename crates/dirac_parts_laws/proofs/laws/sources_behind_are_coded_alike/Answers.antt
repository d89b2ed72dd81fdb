use Rattle.dirac_parts_laws.proofs.Behind.{behind_alike}
use Rattle.dirac_parts_laws.proofs.laws.sources_behind_are_coded_alike.Goals as goal

pub returns : goal.returns
returns c = behind_alike c.plans_can_be_coded.ensures c.streams_show_their_pictures.ensures.sources
