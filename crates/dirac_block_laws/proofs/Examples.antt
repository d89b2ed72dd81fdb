-- Blocks behind their lengths, computed from a few bytes.
use Rattle.std.proofs.Common.{◌≡◌, [], ◌∷◌, Ok, refl}
use Rattle.dirac_bits.specs.Cursor.{start, bits_left, bit_next}
use Rattle.dirac_bits.specs.Fields.{number_on, bits_on, bytes_on, uint_at, block_read_at}
use Rattle.dirac_bits.specs.Syntax.{read}
use Rattle.dirac_block_laws.specs.Standing.{raw_blocks, some_blocks}

-- a block of one byte, behind 0 0 1 and a gap of five bits, and an empty one, behind 1 and a gap of seven
two_blocks : read (raw_blocks 2) (start (32 ∷ 171 ∷ 128 ∷ [])) ≡ Ok ((171 ∷ []) ∷ [] ∷ [], record { bytes = 32 ∷ 171 ∷ 128 ∷ []; at = 24 })
unfolding some_blocks uint_at block_read_at number_on bits_on bytes_on bits_left bit_next
two_blocks = refl
