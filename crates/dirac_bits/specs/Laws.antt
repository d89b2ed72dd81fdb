-- The laws of this crate.
use Rattle.std.specs.Prelude.{◌≡◌, ℕ, ℤ, ◌+◌, ◌*◌, ◌<◌, ◌≤◌, ◌^◌, Bool, List, ◌++◌, length, unsigned_abs, Ok}
use Rattle.dirac_common.specs.Bits.{bits_of}
use Rattle.dirac_common.specs.Numbers.{uint, sint}
use Rattle.dirac_bits.specs.Cursor.{Cursor, Passes}
use Rattle.dirac_bits.specs.Syntax.{Syntax, read}
use Rattle.dirac_bits.specs.Spelling.{Spells}

-- the bits left begin with a spelling of this value, which ends where the second place is
pub record BeginsWith {A : Type 0} (s : Syntax A) (x : A) (c d : Cursor) : Type 0 where
  pub bits : List Bool
  pub spells : Spells s x c.at bits
  pub passes : Passes c bits d

-- the bytes begin with a spelling of this value, from their first bit on
pub record StartsWith {A : Type 0} (s : Syntax A) (x : A) (bytes : List ℕ) : Type 0 where
  pub bits : List Bool
  pub rest : List Bool
  pub spells : Spells s x 0 bits
  pub parts : bits_of bytes ≡ bits ++ rest

-- what the bits left spell is read
abbrev pub IsReadAsSpelled : Type 0 → Type 0
IsReadAsSpelled A = (s : Syntax A) (x : A) (c d : Cursor) → BeginsWith s x c d → read s c ≡ Ok (x, d)

-- what is read is spelled by the bits left
abbrev pub IsSpelledAsRead : Type 0 → Type 0
IsSpelledAsRead A =
    (s : Syntax A) (x : A) (c d : Cursor) → c.at ≤ 8 * length c.bytes → read s c ≡ Ok (x, d) → BeginsWith s x c d

-- no spelling of a number begins with that of another
abbrev pub UnsignedEndsItself : Type 0
UnsignedEndsItself =
    (v w : ℕ) (more rest : List Bool) → v + 1 < 2 ^ 39 → w + 1 < 2 ^ 39 → uint v ++ more ≡ uint w ++ rest → (v ≡ w)
    × (more ≡ rest)

-- nor that of a signed number
abbrev pub SignedEndsItself : Type 0
SignedEndsItself =
    (v w : ℤ) (more rest : List Bool) → unsigned_abs v + 1 < 2 ^ 39 → unsigned_abs w + 1 < 2 ^ 39 → sint v ++ more
    ≡ sint w ++ rest → (v ≡ w) × (more ≡ rest)
