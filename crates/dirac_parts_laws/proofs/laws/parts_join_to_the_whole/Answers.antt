use Rattle.dirac_parts_laws.proofs.Parts.{parts_join}
use Rattle.dirac_parts_laws.proofs.laws.parts_join_to_the_whole.Goals as goal

pub returns : goal.returns
returns c = parts_join c.plans_can_be_coded.ensures c.streams_show_their_pictures.ensures.sources
