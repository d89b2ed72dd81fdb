-- Bits in whole bytes.
use Rattle.std.specs.Prelude.{ℕ, zero, suc, ◌/◌, Bool, List, [], ◌∷◌, length, take, drop}
use Rattle.dirac_common.specs.Bits.{number_from}

-- the first n bytes of these bits, eight bits each, the most significant first
unfoldable pub bytes_in : ℕ → List Bool → List ℕ
bytes_in zero bits = []
bytes_in (suc n) bits = number_from 0 (take 8 bits) ∷ bytes_in n (drop 8 bits)

-- the bytes of these bits
abbrev pub bytes_of : List Bool → List ℕ
bytes_of bits = bytes_in (length bits / 8) bits
