use Rattle.dirac_stopped_laws.proofs.Encodings.{encodings_shown}
use Rattle.dirac_stopped_laws.proofs.Cutting.{stopped_cut}
use Rattle.dirac_stopped_laws.proofs.Showing.{stopped_shown}
use Rattle.dirac_stopped_laws.proofs.laws.stopped_streams_show_their_pictures.Goals as goal

pub returns-clause-cut : goal.returns-clause-cut
returns-clause-cut c = stopped_cut c.infos_are_read_as_written.ensures

pub returns-clause-shown : goal.returns-clause-shown
returns-clause-shown c = stopped_shown c.infos_are_read_as_written.ensures

pub returns-clause-encodings : goal.returns-clause-encodings
returns-clause-encodings c = encodings_shown c.infos_are_read_as_written.ensures c.streams_show_their_pictures.ensures.sources_under c.plans_can_be_coded.ensures
