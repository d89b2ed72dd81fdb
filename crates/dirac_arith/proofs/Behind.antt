-- What a number is read to, first decision by decision.
use Rattle.std.proofs.Common.{◌≡◌, ℕ, pos, zero, suc, ◌+◌, ◌-◌, ◌*◌, ◌≤◌, Bool, true, false, List, Ok, Err, refl, arith}
use Rattle.std.proofs.lemmas.Bool.{ne_eqb}
use Rattle.dirac_common.specs.Bits.{bit_value}
use Rattle.dirac_common.specs.Numbers.{signed_value}
use Rattle.dirac_common.specs.declared.faults.Cause.{Cause}
use Rattle.dirac_common.specs.declared.faults.Cause.TheVariants as cause
use Rattle.dirac_arith.specs.Deciding.{decision_read, number_from_digit, number_read, sign_read, signed_read}
use Rattle.dirac_arith.specs.Reading.{Reading}
use Rattle.dirac_arith.specs.Spelling.{follow_at}

-- a true follow decision ends a number
pub number_ends : (follow : List ℕ) (bits i left value : ℕ) (r s : Reading) → decision_read (follow_at follow i) r ≡ Ok (true, s)
    → number_from_digit follow bits i left value r ≡ Ok (value - 1, s)
unfolding number_from_digit
number_ends follow bits i zero value r s ends = rw ends refl
number_ends follow bits i (suc left) value r s ends = rw ends refl

-- behind a false one a digit more is read
pub number_goes_on : (follow : List ℕ) (bits i left value : ℕ) (r s t : Reading) (digit : Bool) → decision_read (follow_at follow i) r ≡ Ok (false, s)
    → decision_read bits s ≡ Ok (digit, t)
    → number_from_digit follow bits i (suc left) value r ≡ number_from_digit follow bits (i + 1) left (2 * value + bit_value digit) t
unfolding number_from_digit
number_goes_on follow bits i left value r s t digit open' more = rw (open', more) refl

-- behind the last one that has room nothing more is
pub number_too_long : (follow : List ℕ) (bits i value : ℕ) (r s : Reading) → decision_read (follow_at follow i) r ≡ Ok (false, s)
    → number_from_digit follow bits i 0 value r ≡ Err cause.NumberTooLong
unfolding number_from_digit
number_too_long follow bits i value r s open' = rw open' refl

-- a decision that is refused refuses the number
pub number_shut_at : (follow : List ℕ) (bits i left value : ℕ) (r : Reading) (e : Cause) → decision_read (follow_at follow i) r ≡ Err e
    → number_from_digit follow bits i left value r ≡ Err e
unfolding number_from_digit
number_shut_at follow bits i zero value r e shut = rw shut refl
number_shut_at follow bits i (suc left) value r e shut = rw shut refl

pub digit_shut_at : (follow : List ℕ) (bits i left value : ℕ) (r s : Reading) (e : Cause) → decision_read (follow_at follow i) r ≡ Ok (false, s)
    → decision_read bits s ≡ Err e → number_from_digit follow bits i (suc left) value r ≡ Err e
unfolding number_from_digit
digit_shut_at follow bits i left value r s e open' shut = rw (open', shut) refl

-- a number from its first digit on
pub number_begins : (follow : List ℕ) (bits : ℕ) (r s t : Reading) (digit : Bool) → decision_read (follow_at follow 0) r ≡ Ok (false, s)
    → decision_read bits s ≡ Ok (digit, t) → number_read follow bits r ≡ number_from_digit follow bits 1 37 (2 + bit_value digit) t
unfolding number_read
number_begins follow bits r s t digit open' more = number_goes_on follow bits 0 37 1 r s t digit open' more

pub number_shut_first : (follow : List ℕ) (bits : ℕ) (r s : Reading) (e : Cause) → decision_read (follow_at follow 0) r ≡ Ok (false, s)
    → decision_read bits s ≡ Err e → number_read follow bits r ≡ Err e
unfolding number_read
number_shut_first follow bits r s e open' shut = digit_shut_at follow bits 0 37 1 r s e open' shut

-- the sign of a number that isn't 0
pub signed_ends : (follow : List ℕ) (bits sign v : ℕ) (r s t : Reading) (negative : Bool) → number_read follow bits r ≡ Ok (v, s) → 1 ≤ v
    → decision_read sign s ≡ Ok (negative, t) → signed_read follow bits sign r ≡ Ok (signed_value v negative, t)
unfolding signed_read sign_read
signed_ends follow bits sign v r s t negative number some is = rw (number, ne_eqb v 0 (λ e. omega arith), is) refl

pub signed_shut_at_sign : (follow : List ℕ) (bits sign v : ℕ) (r s : Reading) (e : Cause) → number_read follow bits r ≡ Ok (v, s) → 1 ≤ v
    → decision_read sign s ≡ Err e → signed_read follow bits sign r ≡ Err e
unfolding signed_read sign_read
signed_shut_at_sign follow bits sign v r s e number some is = rw (number, ne_eqb v 0 (λ z. omega arith), is) refl

pub signed_shut_at_number : (follow : List ℕ) (bits sign : ℕ) (r : Reading) (e : Cause) → number_read follow bits r ≡ Err e
    → signed_read follow bits sign r ≡ Err e
unfolding signed_read
signed_shut_at_number follow bits sign r e number = rw number refl

-- a true first decision is all of a 0
pub zero_is_read : (follow : List ℕ) (bits sign : ℕ) (r s : Reading) → decision_read (follow_at follow 0) r ≡ Ok (true, s)
    → signed_read follow bits sign r ≡ Ok (pos 0, s)
unfolding signed_read sign_read number_read
zero_is_read follow bits sign r s ends = rw (number_ends follow bits 0 38 1 r s ends) refl
