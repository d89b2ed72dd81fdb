use Rattle.dirac_editing_laws.proofs.InTurn.{cuts_joined}
use Rattle.dirac_editing_laws.proofs.laws.cuts_joined_show_the_whole_cut.Goals as goal

pub returns : goal.returns
returns c = cuts_joined c.infos_are_read_as_written.ensures
