use Rattle.dirac_arith.proofs.Encodings.{flushed_is_carried}
use Rattle.dirac_arith.proofs.laws.written_block_carries.Goals as goal

pub returns : goal.returns
returns c = flushed_is_carried
