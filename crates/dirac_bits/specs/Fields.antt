-- The fields of the bitstream, read: a value and the place behind it, or why there is none.
use Rattle.std.specs.Prelude.{ℕ, zero, suc, ℤ, pos, ◌+◌, ◌-◌, ◌*◌, ◌==◌, if◌then◌else◌, Bool, List, [], ◌∷◌, Result, Ok}
use Rattle.std.specs.Prelude.{Err}
use Rattle.dirac_common.specs.declared.limits.TheConstants.{MOST_DIGITS}
use Rattle.dirac_common.specs.declared.faults.Cause.{Cause}
use Rattle.dirac_common.specs.declared.faults.Cause.TheVariants.{NumberTooLong}
use Rattle.dirac_common.specs.declared.faults.Refusal.{Refusal}
use Rattle.dirac_common.specs.Bits.{bit_value, number_from}
use Rattle.dirac_common.specs.Chain.{◌>>=◌}
use Rattle.dirac_common.specs.Numbers.{signed_value}
use Rattle.dirac_bits.specs.Cursor.{Cursor, place, bit_next}

-- a number, its digits so far making `value`, where that many more may follow: a follow bit 1 ends it
unfoldable pub number_on : ℕ → ℕ → Cursor → Result (ℕ × Cursor) Cause
number_on zero value c = do
  follow ← bit_next c
  if follow.0 then Ok (value - 1, follow.1) else Err NumberTooLong
number_on (suc left) value c = do
  follow ← bit_next c
  if follow.0 then Ok (value - 1, follow.1) else (bit_next follow.1
      >>= λ digit. number_on left (2 * value + bit_value digit.0) digit.1)

-- this number with a sign that was read
abbrev pub with_sign : ℕ → Bool × Cursor → Result (ℤ × Cursor) Cause
with_sign n sign = Ok (signed_value n sign.0, sign.1)

-- the sign of this number, where it isn't 0
unfoldable pub sign_on : ℕ × Cursor → Result (ℤ × Cursor) Cause
sign_on n = if n.0 == 0 then Ok (pos 0, n.1) else (bit_next n.1 >>= with_sign n.0)

-- a number and its sign
abbrev pub signed_on : Cursor → Result (ℤ × Cursor) Cause
signed_on c = number_on MOST_DIGITS 1 c >>= sign_on

-- that many bits
unfoldable pub bits_on : ℕ → Cursor → Result (List Bool × Cursor) Cause
bits_on zero c = Ok ([], c)
bits_on (suc n) c = do
  bit ← bit_next c
  more ← bits_on n bit.1
  Ok (bit.0 ∷ more.0, more.1)

-- a field is refused at the byte of its first bit
abbrev pub from : {A : Type 0} → Cursor → Result (A × Cursor) Cause → Result (A × Cursor) Refusal
from c (Ok x) = Ok x
from c (Err cause) = Err (record { at = place c; cause = cause })

-- a flag, of one bit
unfoldable pub flag_at : Cursor → Result (Bool × Cursor) Refusal
flag_at c = from c (bit_next c)

-- an unsigned number
unfoldable pub uint_at : Cursor → Result (ℕ × Cursor) Refusal
uint_at c = from c (number_on MOST_DIGITS 1 c)

-- a signed number
unfoldable pub sint_at : Cursor → Result (ℤ × Cursor) Refusal
sint_at c = from c (signed_on c)

-- these bits as a number, the most significant first
abbrev pub number_from_bits : List Bool × Cursor → Result (ℕ × Cursor) Cause
number_from_bits bits = Ok (number_from 0 bits.0, bits.1)

-- the number of the next 32 bits
unfoldable pub literal_on : Cursor → Result (ℕ × Cursor) Cause
literal_on c = bits_on 32 c >>= number_from_bits

-- a literal
unfoldable pub literal_at : Cursor → Result (ℕ × Cursor) Refusal
literal_at c = from c (literal_on c)

-- that many bytes, each the number of eight bits
unfoldable pub bytes_on : ℕ → Cursor → Result (List ℕ × Cursor) Cause
bytes_on zero c = Ok ([], c)
bytes_on (suc n) c = do
  bits ← bits_on 8 c
  more ← bytes_on n bits.1
  Ok (number_from 0 bits.0 ∷ more.0, more.1)

-- a block of that many bytes
unfoldable pub block_read_at : ℕ → Cursor → Result (List ℕ × Cursor) Refusal
block_read_at len c = from c (bytes_on len c)
