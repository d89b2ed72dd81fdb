use Rattle.std.proofs.Common.{arith}
use Rattle.dirac_bits.proofs.Packed.{all_below}
use Rattle.dirac_sequence.proofs.write.are_bytes.Goals as goal

pub returns : goal.returns
returns c = all_below c.args.bytes.now (λ i. omega (arith, c.type_inv.bytes i))
