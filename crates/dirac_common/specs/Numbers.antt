-- How the standard spells numbers: interleaved exp-Golomb, and literals of four bytes.
use Rattle.std.specs.Prelude.{ℕ, zero, suc, ℤ, pos, negsuc, ◌+◌, ◌/◌, ◌%◌, ◌==◌, nat_lt, if◌then◌else◌, Bool, true}
use Rattle.std.specs.Prelude.{false, List, [], ◌∷◌, ◌++◌}
use Rattle.dirac_common.specs.declared.limits.TheConstants.{MOST_DIGITS}
use Rattle.dirac_common.specs.Bits.{byte_bits}

-- the binary digits behind the leading one, at most that many
unfoldable pub digits_within : ℕ → ℕ → List Bool
digits_within zero n = []
digits_within (suc most) n = if nat_lt n 2 then [] else digits_within most (n / 2) ++ (n % 2 == 1) ∷ []

-- the binary digits of v + 1 behind its leading one; a number has at most 38
unfoldable pub digits_of : ℕ → List Bool
digits_of v = digits_within MOST_DIGITS (v + 1)

-- digits, each behind a follow bit 0
abbrev pub followed : List Bool → List Bool
followed [] = []
followed (b ∷ bs) = false ∷ b ∷ followed bs

-- an unsigned number: each digit behind a follow bit 0, then a follow bit 1
abbrev pub uint : ℕ → List Bool
uint v = followed (digits_of v) ++ true ∷ []

-- a signed number: its magnitude, then where it isn't 0 its sign, 1 for negative
abbrev pub sint : ℤ → List Bool
sint (pos zero) = uint 0
sint (pos (suc n)) = uint (suc n) ++ false ∷ []
sint (negsuc n) = uint (suc n) ++ true ∷ []

-- a literal: four bytes, the most significant first
abbrev pub literal : ℕ → List Bool
literal v =
    byte_bits (v / 16777216 % 256) (byte_bits (v / 65536 % 256) (byte_bits (v / 256 % 256) (byte_bits (v % 256) [])))

-- a magnitude with a sign, true for negative
abbrev pub signed_value : ℕ → Bool → ℤ
signed_value n false = pos n
signed_value zero true = pos zero
signed_value (suc n) true = negsuc n
