use Rattle.dirac_arith.proofs.Spellings.{carries_one_number, carries_one_signed}
use Rattle.dirac_arith.proofs.laws.block_carries_one_number.Goals as goal

pub returns : goal.returns
returns c = record { unsigned = carries_one_number; signed = carries_one_signed }
