use Rattle.dirac_editing_laws.proofs.Again.{joined_stay}
use Rattle.dirac_editing_laws.proofs.laws.joined_streams_stay.Goals as goal

pub returns : goal.returns
returns c = joined_stay c.infos_are_read_as_written.ensures
