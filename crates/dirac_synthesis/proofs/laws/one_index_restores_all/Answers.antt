use Rattle.dirac_synthesis.proofs.ByCodeblock.{one_restores}
use Rattle.dirac_synthesis.proofs.laws.one_index_restores_all.Goals as goal

pub returns : goal.returns
returns c = record { values = one_restores }
