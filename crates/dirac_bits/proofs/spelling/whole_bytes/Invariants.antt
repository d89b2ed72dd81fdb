use Rattle.std.proofs.Common.{◌≡◌, ◌+◌, ◌*◌, ◌++◌, length, take}
use Rattle.dirac_common.specs.Bits.{bits_of}
use Rattle.dirac_bits.specs.Writing.{bits_below}
use Rattle.dirac_bits.proofs.spelling.whole_bytes.Given as goal

abbrev pub invariant-bytes : goal.invariant-bytes
invariant-bytes l =
    (bits_of (take l.index l.bytes) ++ bits_below l.left l.run.number ≡ bits_below l.run.count l.run.number)
    × (l.left + 8 * l.index ≡ l.run.count)
    × (length l.bytes ≡ 11)
