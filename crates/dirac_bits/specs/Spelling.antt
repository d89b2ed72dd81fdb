-- Which bits spell the value of a header.
use Rattle.std.specs.Prelude.{◌≡◌, ℕ, ℤ, ◌+◌, ◌*◌, ◌/◌, ◌<◌, ◌^◌, Bool, List, [], ◌∷◌, ◌++◌, length, unsigned_abs}
use Rattle.std.specs.List.{AllByRecursion}
use Rattle.dirac_common.specs.Bits.{bits_of}
use Rattle.dirac_common.specs.Numbers as numbers
use Rattle.dirac_bits.specs.Syntax.{Syntax, done, flag_then, uint_then, sint_then, literal_then, block_then, align_then}
use Rattle.dirac_bits.specs.Syntax.{here_then, refuse}

-- the bits are the header's fields one after another, the first of them bit k of the bytes; the bits of a gap are free
abbrev pub Spells : {A : Type 0} → Syntax A → A → ℕ → List Bool → Type 0
Spells (done y) x k bits = (y ≡ x) × (bits ≡ [])
Spells (flag_then f) x k bits =
    (b : Bool) × (rest : List Bool) × (bits ≡ b ∷ rest) × Spells (f b) x (k + 1) rest
Spells (uint_then f) x k bits =
    (v : ℕ) × (rest : List Bool) × (v + 1 < 2 ^ 39) × (bits ≡ numbers.uint v ++ rest)
    × Spells (f v) x (k + length (numbers.uint v)) rest
Spells (sint_then f) x k bits =
    (v : ℤ) × (rest : List Bool) × (unsigned_abs v + 1 < 2 ^ 39) × (bits ≡ numbers.sint v ++ rest)
    × Spells (f v) x (k + length (numbers.sint v)) rest
Spells (literal_then f) x k bits =
    (v : ℕ) × (rest : List Bool) × (v < 2 ^ 32) × (bits ≡ numbers.literal v ++ rest) × Spells (f v) x (k + 32) rest
Spells (block_then len f) x k bits =
    (bytes : List ℕ) × (rest : List Bool) × ((length bytes ≡ len) × AllByRecursion (λ b. b < 2 ^ 8) bytes)
    × (bits ≡ bits_of bytes ++ rest) × Spells (f bytes) x (k + length (bits_of bytes)) rest
Spells (align_then s) x k bits =
    (gap : List Bool) × (rest : List Bool) × (k + length gap ≡ 8 * ((k + 7) / 8)) × (bits ≡ gap ++ rest)
    × Spells s x (k + length gap) rest
Spells (here_then f) x k bits = Spells (f (k / 8)) x k bits
Spells (refuse at cause) x k bits = ⊥

-- behind the first bits, the second have these of a spelling of this value
pub record SpelledBehind {A : Type 0} (s : Syntax A) (x : A) (old new : List Bool) : Type 0 where
  pub bits : List Bool
  pub is : new ≡ old ++ bits
  pub spells : Spells s x (length old) bits
