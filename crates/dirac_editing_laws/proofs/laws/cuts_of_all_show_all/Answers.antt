use Rattle.dirac_editing_laws.proofs.AllShown.{all_cut}
use Rattle.dirac_editing_laws.proofs.laws.cuts_of_all_show_all.Goals as goal

pub returns : goal.returns
returns c = all_cut c.infos_are_read_as_written.ensures
