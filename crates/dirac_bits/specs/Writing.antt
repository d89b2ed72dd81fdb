-- Bits that are written.
use Rattle.std.specs.Prelude.{◌≡◌, ℕ, zero, suc, ◌-◌, ◌/◌, ◌%◌, ◌==◌, Bool, false, List, [], ◌∷◌, ◌++◌, length}
use Rattle.std.specs.Prelude.{replicate}

-- the lowest bits of a number, that many, the most significant of them first
unfoldable pub bits_below : ℕ → ℕ → List Bool
bits_below zero n = []
bits_below (suc count) n = bits_below count (n / 2) ++ (n % 2 == 1) ∷ []

-- the bits 0 up to the next byte
abbrev pub gap : List Bool → List Bool
gap bits = replicate ((8 - length bits % 8) % 8) false

-- these bits, and 0 up to the next byte
abbrev pub up_to_byte : List Bool → List Bool
up_to_byte bits = bits ++ gap bits

-- whole bytes were written
abbrev pub IsWhole : List Bool → Type 0
IsWhole bits = length bits % 8 ≡ 0
