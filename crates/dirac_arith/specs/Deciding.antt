-- What a block reads to, decision by decision: a decision is true where the front of the block lies in the part of the
-- interval that true keeps. Each step gives its value and the reading behind it, or why there is none.
use Rattle.std.specs.Prelude.{◌≡◌, ℕ, zero, suc, ℤ, pos, ◌+◌, ◌-◌, ◌*◌, ◌==◌, if◌then◌else◌, Bool, true, List, Result}
use Rattle.std.specs.Prelude.{Ok, Err}
use Rattle.dirac_common.specs.declared.limits.TheConstants.{MOST_DIGITS}
use Rattle.dirac_common.specs.declared.faults.Cause.{Cause}
use Rattle.dirac_common.specs.declared.faults.Cause.TheVariants.{CodeWord, NumberTooLong}
use Rattle.dirac_common.specs.Bits.{bit_value}
use Rattle.dirac_common.specs.Chain.{◌>>=◌}
use Rattle.dirac_common.specs.Numbers.{signed_value}
use Rattle.dirac_arith.specs.Front.{front}
use Rattle.dirac_arith.specs.Interval.{Decision, narrowed, narrowed_by, whole}
use Rattle.dirac_arith.specs.Reading.{Reading}
use Rattle.dirac_arith.specs.Spelling.{follow_at}
use Rattle.dirac_arith.specs.Carried.{lies_in}

-- the start of a block
abbrev pub begin : List ℕ → Reading
begin block = record { block = block; at = whole }

-- the reading after a decision
abbrev pub after_decision : Reading → Decision → Reading
after_decision r d = record { block = r.block; at = narrowed r.at d }

-- the reading after more decisions
abbrev pub after_all : Reading → List Decision → Reading
after_all r ds = record { block = r.block; at = narrowed_by r.at ds }

-- the truth of the next decision in a context
abbrev pub truth_of : ℕ → Reading → Bool
truth_of context r = lies_in r.block (narrowed r.at (context, true))

-- the next decision; a block that begins with sixteen ones has none
unfoldable pub decision_read : ℕ → Reading → Result (Bool × Reading) Cause
decision_read context r =
    if front r.block 16 == 0xFFFF then Err CodeWord else
    Ok (truth_of context r, after_decision r (context, truth_of context r))

-- a number, its digits so far making `value`, where that many more may follow: digit number i is next, behind its
-- follow decision
unfoldable pub number_from_digit : List ℕ → ℕ → ℕ → ℕ → ℕ → Reading → Result (ℕ × Reading) Cause
number_from_digit follow bits i zero value r = do
  last ← decision_read (follow_at follow i) r
  if last.0 then Ok (value - 1, last.1) else Err NumberTooLong
number_from_digit follow bits i (suc left) value r = do
  last ← decision_read (follow_at follow i) r
  if last.0 then Ok (value - 1, last.1) else (decision_read bits last.1
      >>= λ digit. number_from_digit follow bits (i + 1) left (2 * value + bit_value digit.0) digit.1)

-- an unsigned number
unfoldable pub number_read : List ℕ → ℕ → Reading → Result (ℕ × Reading) Cause
number_read follow bits r = number_from_digit follow bits 0 MOST_DIGITS 1 r

-- the sign of this number, where it isn't 0
unfoldable pub sign_read : ℕ → ℕ × Reading → Result (ℤ × Reading) Cause
sign_read sign n =
    if n.0 == 0 then Ok (pos 0, n.1) else (decision_read sign n.1 >>= λ negative. Ok (
      signed_value n.0 negative.0,
      negative.1,
    ))

-- a signed number: a magnitude and its sign
unfoldable pub signed_read : List ℕ → ℕ → ℕ → Reading → Result (ℤ × Reading) Cause
signed_read follow bits sign r = number_read follow bits r >>= sign_read sign

-- a decoder's answer is what is read, and it stands behind that; nothing is said of its place after a refusal
abbrev pub GivesReading : {A : Type 0} → Result A Cause → Reading → Result (A × Reading) Cause → Type 0
GivesReading (Ok v) new read = read ≡ Ok (v, new)
GivesReading (Err cause) new read = read ≡ Err cause
