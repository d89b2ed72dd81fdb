use Rattle.dirac_coeffs.proofs.BlockLengths.{block_short}
use Rattle.dirac_coeffs.proofs.laws.blocks_are_short.Goals as goal

pub returns : goal.returns
returns c = block_short
