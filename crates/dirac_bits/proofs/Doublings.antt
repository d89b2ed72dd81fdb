-- How a number is read, bit by bit.
use Rattle.std.proofs.Common.{◌≡◌, ℕ, zero, suc, ◌+◌, ◌-◌, ◌*◌, ◌<◌, Bool, true, false, refl, arith, Ok, Err}
use Rattle.std.specs.Int.{from_bool}
use Rattle.dirac_common.specs.declared.faults.Cause.{Cause}
use Rattle.dirac_common.specs.declared.faults.Cause.TheVariants.{NumberTooLong}
use Rattle.dirac_common.specs.Bits.{bit_value}
use Rattle.dirac_bits.specs.Cursor.{Cursor, bit_next}
use Rattle.dirac_bits.specs.Fields.{number_on}

-- a digit behind a follow bit 0
pub goes_on : (left value : ℕ) (c d e : Cursor) (b : Bool) → 0 < left → bit_next c ≡ Ok (false, d) → bit_next d ≡ Ok (b, e)
    → number_on left value c ≡ number_on (left - 1) (2 * value + bit_value b) e
unfolding number_on
goes_on zero value c d e b some follow digit = absurd (omega arith)
goes_on (suc left) value c d e b some follow digit =
    let same : suc left - 1 ≡ left = omega arith in
    rw (same, follow, digit) refl

-- a follow bit 1 is the last
pub ends_number : (left value : ℕ) (c d : Cursor) → bit_next c ≡ Ok (true, d) → number_on left value c ≡ Ok (value - 1, d)
unfolding number_on
ends_number zero value c d follow = rw follow refl
ends_number (suc left) value c d follow = rw follow refl

-- a 39th follow bit 0
pub too_long : (value : ℕ) (c d : Cursor) → bit_next c ≡ Ok (false, d) → number_on 0 value c ≡ Err NumberTooLong
unfolding number_on
too_long value c d follow = rw follow refl

-- no follow bit is left
pub no_follow : (left value : ℕ) (c : Cursor) (cause : Cause) → bit_next c ≡ Err cause → number_on left value c ≡ Err cause
unfolding number_on
no_follow zero value c cause none = rw none refl
no_follow (suc left) value c cause none = rw none refl

-- no digit is left
pub no_digit : (left value : ℕ) (c d : Cursor) (cause : Cause) → 0 < left → bit_next c ≡ Ok (false, d) → bit_next d ≡ Err cause → number_on left value c ≡ Err cause
unfolding number_on
no_digit zero value c d cause some follow none = absurd (omega arith)
no_digit (suc left) value c d cause some follow none = rw (follow, none) refl

-- a bit as a number of the code
pub from_bool-bit_value : (b : Bool) → from_bool b ≡ bit_value b
from_bool-bit_value true = refl
from_bool-bit_value false = refl
