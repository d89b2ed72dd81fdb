use Rattle.dirac_edit_laws.proofs.Joining.{joins_shown}
use Rattle.dirac_edit_laws.proofs.laws.joined_streams_show_the_same.Goals as goal

pub returns : goal.returns
returns c = joins_shown c.infos_are_read_as_written.ensures
