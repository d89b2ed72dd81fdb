use Rattle.dirac_edit_laws.proofs.Whole.{cuts_shown}
use Rattle.dirac_edit_laws.proofs.laws.cuts_show_their_parts.Goals as goal

pub returns : goal.returns
returns c = cuts_shown c.infos_are_read_as_written.ensures
