use Rattle.dirac_picture.proofs.Chained.{planes_are_read_by_chains as are_read}
use Rattle.dirac_picture.proofs.laws.planes_are_read_by_chains.Goals as goal

pub returns : goal.returns
returns c = are_read
