-- Bits of bytes, most significant first, and the numbers that lists of bits spell.
use Rattle.std.specs.Prelude.{ℕ, ◌+◌, ◌*◌, ◌/◌, ◌%◌, ◌^◌, ◌==◌, Bool, true, false, List, [], ◌∷◌}

-- whether the bit of weight 2 ^ i is set
abbrev pub is_bit_set : ℕ → ℕ → Bool
is_bit_set byte i = byte / 2 ^ i % 2 == 1

-- the eight bits of a byte, before these
abbrev pub byte_bits : ℕ → List Bool → List Bool
byte_bits b rest =
    is_bit_set b 7 ∷ is_bit_set b 6 ∷ is_bit_set b 5 ∷ is_bit_set b 4 ∷ is_bit_set b 3 ∷ is_bit_set b 2 ∷ is_bit_set b 1
    ∷ is_bit_set b 0 ∷ rest

-- the bits of bytes, in reading order
abbrev pub bits_of : List ℕ → List Bool
bits_of [] = []
bits_of (b ∷ bs) = byte_bits b (bits_of bs)

-- a bit as a number
abbrev pub bit_value : Bool → ℕ
bit_value true = 1
bit_value false = 0

-- the number whose binary digits are those of `high` followed by these
abbrev pub number_from : ℕ → List Bool → ℕ
number_from high [] = high
number_from high (b ∷ bs) = number_from (2 * high + bit_value b) bs
