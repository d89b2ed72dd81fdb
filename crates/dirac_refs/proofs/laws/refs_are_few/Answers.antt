use Rattle.dirac_refs.proofs.Listed.{refs_few}
use Rattle.dirac_refs.proofs.laws.refs_are_few.Goals as goal

pub returns : goal.returns
returns c = refs_few
