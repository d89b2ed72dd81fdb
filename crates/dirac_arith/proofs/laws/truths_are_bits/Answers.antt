use Rattle.dirac_arith.proofs.Spellings.{truths_are_bits, signed_truths_are_bits}
use Rattle.dirac_arith.proofs.laws.truths_are_bits.Goals as goal

pub returns : goal.returns
returns c = record { unsigned = truths_are_bits; signed = signed_truths_are_bits }
