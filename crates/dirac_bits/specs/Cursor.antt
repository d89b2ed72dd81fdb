-- Where a reader of bits stands.
use Rattle.std.specs.Prelude.{◌≡◌, ℕ, ◌+◌, ◌*◌, ◌/◌, Bool, List, [], ◌∷◌, ◌++◌, length, drop, Result, Ok, Err}
use Rattle.dirac_common.specs.declared.faults.Cause.{Cause}
use Rattle.dirac_common.specs.declared.faults.Cause.TheVariants.{UnitShort}
use Rattle.dirac_common.specs.Bits.{bits_of}

-- the bytes, and the number of the bit that is read next; bits count from 0, the most significant of a byte first
pub record Cursor : Type 0 where
  pub bytes : List ℕ
  pub at : ℕ

-- the start of a payload
abbrev pub start : List ℕ → Cursor
start bytes = record { bytes = bytes; at = 0 }

-- the number of the byte that holds the next bit
abbrev pub place : Cursor → ℕ
place c = c.at / 8

-- that many bits further on
abbrev pub skip : ℕ → Cursor → Cursor
skip n c = record { bytes = c.bytes; at = c.at + n }

-- at the next byte that begins here or later
abbrev pub aligned : Cursor → Cursor
aligned c = record { bytes = c.bytes; at = 8 * ((c.at + 7) / 8) }

-- at the first bit of a byte
abbrev pub IsAligned : Cursor → Type 0
IsAligned c = c.at ≡ 8 * place c

-- the bits from the next one on
unfoldable pub bits_left : Cursor → List Bool
bits_left c = drop c.at (bits_of c.bytes)

-- the first of these bits, which are those left
abbrev pub first_bit_of : List Bool → Cursor → Result (Bool × Cursor) Cause
first_bit_of [] c = Err UnitShort
first_bit_of (b ∷ bits) c = Ok (b, skip 1 c)

-- the next bit
unfoldable pub bit_next : Cursor → Result (Bool × Cursor) Cause
bit_next c = first_bit_of (bits_left c) c

-- the bits left begin with these, and the second place is just behind them
pub record Passes (c : Cursor) (bits : List Bool) (d : Cursor) : Type 0 where
  pub same_bytes : d.bytes ≡ c.bytes
  pub moved : d.at ≡ c.at + length bits
  pub front : bits_left c ≡ bits ++ bits_left d
