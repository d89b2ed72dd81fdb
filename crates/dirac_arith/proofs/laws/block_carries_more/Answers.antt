use Rattle.dirac_arith.proofs.Carrieds.{carries_some_truth, carries_some_number, carries_some_signed}
use Rattle.dirac_arith.proofs.laws.block_carries_more.Goals as goal

pub returns : goal.returns
returns c = record { decision = carries_some_truth; number = carries_some_number; signed = carries_some_signed }
