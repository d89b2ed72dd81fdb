use Rattle.dirac_edit_laws.proofs.EncodedCut.{encoded_cuts}
use Rattle.dirac_edit_laws.proofs.laws.encoded_cuts_show_their_groups.Goals as goal

pub returns : goal.returns
returns c = encoded_cuts c.infos_are_read_as_written.ensures c.plans_can_be_coded.ensures c.streams_show_their_pictures.ensures.sources
