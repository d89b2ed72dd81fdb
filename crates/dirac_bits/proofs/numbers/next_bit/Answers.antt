use Rattle.std.proofs.Common.{◌+◌, ◌*◌, arith}
use Rattle.std.proofs.lemmas.Nat.Bits.{shr_and_one}
use Rattle.dirac_bits.proofs.Bits.{bit_next_is, no_bit_next}
use Rattle.dirac_bits.proofs.numbers.next_bit.Goals as goal

pub returns-then-bit_place-bytes-clause-value : goal.returns-then-bit_place-bytes-clause-value
returns-then-bit_place-bytes-clause-value c =
    rw (shr_and_one, c.after.ensures)
    (bit_next_is c.args.bit_place.byte c.args.bit_place.bit (8 * c.args.bit_place.byte + c.args.bit_place.bit) c.args.bytes.now (omega arith) (omega arith) (omega arith))

pub returns-else-bit_place-bytes-clause-value : goal.returns-else-bit_place-bytes-clause-value
returns-else-bit_place-bytes-clause-value c =
    no_bit_next (8 * c.args.bit_place.byte + c.args.bit_place.bit) c.args.bytes.now (omega arith)
