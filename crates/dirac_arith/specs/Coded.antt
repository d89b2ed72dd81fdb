-- Values that decisions spell: a syntax, in which the decision or number that comes next may depend on those before.
-- One meaning of it is reading, another spelling, a third where a block breaks off.
use Rattle.std.specs.Prelude.{◌≡◌, ℕ, zero, suc, ℤ, ◌<◌, ◌-◌, ◌^◌, ◌++◌, ◌⊎◌, Bool, false, List, [], ◌∷◌, length}
use Rattle.std.specs.Prelude.{Result, Ok, Err, nat_abs}
use Rattle.dirac_common.specs.Chain.{◌>>=◌}
use Rattle.dirac_common.specs.declared.limits.TheConstants.{MOST_DIGITS}
use Rattle.dirac_common.specs.declared.faults.Cause.{Cause}
use Rattle.dirac_common.specs.declared.faults.Cause.TheVariants.{NumberTooLong}
use Rattle.dirac_arith.specs.Deciding.{decision_read, number_read, signed_read}
use Rattle.dirac_arith.specs.Interval.{Decision}
use Rattle.dirac_arith.specs.Reading.{Reading}
use Rattle.dirac_arith.specs.Spelling.{spelt, spelling, signed_spelling}

-- what is asked of a block: a decision in a context, a number under follow contexts and that of its digits, the same
-- with the context of a sign
pub data Question : Type 0 where
  one_decision : ℕ → Question
  one_number : List ℕ → ℕ → Question
  one_signed : List ℕ → ℕ → ℕ → Question

-- what is told
abbrev pub Answer : Question → Type 0
Answer (one_decision context) = Bool
Answer (one_number follow bits) = ℕ
Answer (one_signed follow bits sign) = ℤ

-- the answer that is read
abbrev pub answer : (q : Question) → Reading → Result (Answer q × Reading) Cause
answer (one_decision context) r = decision_read context r
answer (one_number follow bits) r = number_read follow bits r
answer (one_signed follow bits sign) r = signed_read follow bits sign r

-- the decisions that tell it
abbrev pub telling : (q : Question) → Answer q → List Decision
telling (one_decision context) b = (context, b) ∷ []
telling (one_number follow bits) n = spelling follow bits n
telling (one_signed follow bits sign) z = signed_spelling follow bits sign z

-- an answer that can be told
abbrev pub Fits : (q : Question) → Answer q → Type 0
Fits (one_decision context) b = Unit {0}
Fits (one_number follow bits) n = n < 2 ^ 39 - 1
Fits (one_signed follow bits sign) z = nat_abs z < 2 ^ 39 - 1

-- digits that are as many as no number has, and a follow decision behind them that is false
abbrev pub TooLong : Question → Cause → List Decision → Type 0
TooLong (one_decision context) cause ds = ⊥
TooLong (one_number follow bits) cause ds =
    (digits : List Bool) × (length digits ≡ MOST_DIGITS) × (cause ≡ NumberTooLong)
    × (ds ≡ spelt follow bits digits false)
TooLong (one_signed follow bits sign) cause ds =
    (digits : List Bool) × (length digits ≡ MOST_DIGITS) × (cause ≡ NumberTooLong)
    × (ds ≡ spelt follow bits digits false)

-- a value: it is there, or hangs on an answer, or is refused
pub data Coded (A : Type 0) : Type 0 where
  done : A → Coded A
  ask : (q : Question) → (Answer q → Coded A) → Coded A
  refuse : Cause → Coded A

-- a decision, and what hangs on it
abbrev pub decide : {A : Type 0} → ℕ → (Bool → Coded A) → Coded A
decide context f = ask (one_decision context) f

-- a number
abbrev pub number : {A : Type 0} → List ℕ → ℕ → (ℕ → Coded A) → Coded A
number follow bits f = ask (one_number follow bits) f

-- a signed number
abbrev pub signed : {A : Type 0} → List ℕ → ℕ → ℕ → (ℤ → Coded A) → Coded A
signed follow bits sign f = ask (one_signed follow bits sign) f

-- the value that is read from here on, or why it is refused
abbrev pub read_coded : {A : Type 0} → Coded A → Reading → Result (A × Reading) Cause
read_coded (done x) r = Ok (x, r)
read_coded (ask q f) r = answer q r >>= λ a. read_coded (f a.0) a.1
read_coded (refuse cause) r = Err cause

-- these decisions spell this value
abbrev pub DecisionsSpell : {A : Type 0} → Coded A → A → List Decision → Type 0
DecisionsSpell (done x) y ds = (x ≡ y) × (ds ≡ [])
DecisionsSpell (ask q f) y ds =
    (a : Answer q) × (rest : List Decision) × Fits q a × (ds ≡ telling q a ++ rest) × DecisionsSpell (f a) y rest
DecisionsSpell (refuse cause) y ds = ⊥

-- these decisions lead to where a value breaks off for this cause: to a refusal, or to a number that is too long
abbrev pub Breaks : {A : Type 0} → Coded A → Cause → List Decision → Type 0
Breaks (done x) cause ds = ⊥
Breaks (ask q f) cause ds =
    TooLong q cause ds
    ⊎ ((a : Answer q) × (rest : List Decision) × Fits q a × (ds ≡ telling q a ++ rest) × Breaks (f a) cause rest)
Breaks (refuse reason) cause ds = (cause ≡ reason) × (ds ≡ [])

-- a value, and then what it asks for
abbrev pub and_then : {A B : Type 0} → Coded A → (A → Coded B) → Coded B
and_then (done x) g = g x
and_then (ask q f) g = ask q (λ a. and_then (f a) g)
and_then (refuse cause) g = refuse cause

-- the first n of these steps, each from what the steps before gave
unfoldable pub repeated : {A : Type 0} → (ℕ → A → Coded A) → ℕ → A → Coded A
repeated step zero x = done x
repeated step (suc n) x = and_then (repeated step n x) (step n)
