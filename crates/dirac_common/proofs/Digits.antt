-- A number and its binary digits behind the leading one give each other.
use Rattle.std.proofs.Common.{◌≡◌, ℕ, zero, suc, ◌+◌, ◌-◌, ◌*◌, ◌/◌, ◌%◌, ◌^◌, ◌<◌, ◌≤◌, Bool, true, false, List, [], ◌∷◌, ◌++◌, length, refl, ap, sym, ◌∙◌, arith, add-one, append_assoc, length-append, subst, ◌==◌, inl, inr}
use Rattle.std.proofs.lemmas.Bool.{cases_lt, lt-ltb, le-ltb}
use Rattle.std.proofs.lemmas.List.{append-nil}
use Rattle.std.proofs.Math.Nat.{two-pow-succ}
use Rattle.dirac_common.specs.Bits.{bit_value, number_from}
use Rattle.dirac_common.specs.Numbers.{digits_within, digits_of}

-- the next power of two is twice as much
pub power_doubled : (next n : ℕ) → next ≡ n + 1 → 2 ^ next ≡ 2 * 2 ^ n
power_doubled next n e =
    let same : 2 ^ next ≡ 2 ^ n + 2 ^ n = ap (λ i. 2 ^ i) e ∙ ap (λ i. 2 ^ i) (add-one n) ∙ two-pow-succ n in
    omega arith

-- one more digit doubles the number and adds the digit
pub number_push : (high : ℕ) (bs : List Bool) (b : Bool) → number_from high (bs ++ b ∷ []) ≡ 2 * number_from high bs + bit_value b
number_push high [] b = refl
number_push high (c ∷ bs) b = number_push (2 * high + bit_value c) bs b

-- a remainder by two is a digit
pub bit_value-of_rest : (n : ℕ) → bit_value (n % 2 == 1) ≡ n % 2
bit_value-of_rest n = rest (n % 2) (omega arith) where
  rest : (r : ℕ) → r < 2 → bit_value (r == 1) ≡ r
  rest zero h = refl
  rest (suc zero) h = refl
  rest (suc (suc r)) h = absurd (omega arith)

-- a digit is below two
pub bit_value-below : (b : Bool) → bit_value b < 2
bit_value-below true = omega arith
bit_value-below false = omega arith

-- the digits of n, where there is room for them, spell n
pub digits_within-value : (most n : ℕ) → 1 ≤ n → n < 2 ^ (most + 1) → number_from 1 (digits_within most n) ≡ n
unfolding digits_within
digits_within-value zero n some below = omega arith
digits_within-value (suc most) n some below =
    elim (cases_lt n 2) [
      | inl small ↦ rw (lt-ltb n 2 small) (omega arith)
      | inr large ↦
          let twice = power_doubled (suc most + 1) (most + 1) (omega arith) in
          let half = digits_within-value most (n / 2) (omega arith) (omega arith) in
          let push = number_push 1 (digits_within most (n / 2)) (n % 2 == 1) in
          let rest = bit_value-of_rest n in
          rw (le-ltb n 2 large) (push ∙ omega arith)
    ]

-- room beyond the digits changes nothing
pub digits_within-more : (least most n : ℕ) → least ≤ most → n < 2 ^ (least + 1) → digits_within most n ≡ digits_within least n
unfolding digits_within
digits_within-more zero zero n fits below = refl
digits_within-more zero (suc most) n fits below = rw (lt-ltb n 2 (omega arith)) refl
digits_within-more (suc least) zero n fits below = absurd (omega arith)
digits_within-more (suc least) (suc most) n fits below =
    elim (cases_lt n 2) [
      | inl small ↦ rw (lt-ltb n 2 small) refl
      | inr large ↦
          let twice = power_doubled (suc least + 1) (least + 1) (omega arith) in
          let half = digits_within-more least most (n / 2) (omega arith) (omega arith) in
          rw (le-ltb n 2 large) (ap (λ ds. ds ++ (n % 2 == 1) ∷ []) half)
    ]

-- one more digit stands behind those of the number so far
pub digits_within-push : (most value : ℕ) (b : Bool) → 1 ≤ value → digits_within (suc most) (2 * value + bit_value b) ≡ digits_within most value ++ b ∷ []
unfolding digits_within
digits_within-push most value true some =
    let half : (2 * value + 1) / 2 ≡ value = omega arith in
    let rest : (2 * value + 1) % 2 ≡ 1 = omega arith in
    rw (le-ltb (2 * value + 1) 2 (omega arith), half, rest) refl
digits_within-push most value false some =
    let half : (2 * value + 0) / 2 ≡ value = omega arith in
    let rest : (2 * value + 0) % 2 ≡ 0 = omega arith in
    rw (le-ltb (2 * value + 0) 2 (omega arith), half, rest) refl

-- there are no more digits than room
pub length-digits_within : (most n : ℕ) → length (digits_within most n) ≤ most
unfolding digits_within
length-digits_within zero n = omega arith
length-digits_within (suc most) n =
    elim (cases_lt n 2) [
      | inl small ↦ rw (lt-ltb n 2 small) (omega arith)
      | inr large ↦
          let half = length-digits_within most (n / 2) in
          rw (le-ltb n 2 large) (omega (arith, length-append (digits_within most (n / 2)) ((n % 2 == 1) ∷ [])))
    ]

-- digits behind a number of digits are the digits of the number that they spell together
digits_within-from : (room before high : ℕ) (bs : List Bool) → room ≡ before + length bs → 1 ≤ high
    → digits_within room (number_from high bs) ≡ digits_within before high ++ bs
digits_within-from room before high [] same some =
    let e : room ≡ before = omega arith in
    ap (λ i. digits_within i high) e ∙ sym (append-nil (digits_within before high))
digits_within-from room before high (b ∷ bs) same some =
    let more : room ≡ suc before + length bs = omega arith in
    digits_within-from room (suc before) (2 * high + bit_value b) bs more (omega arith)
    ∙ ap (λ ds. ds ++ bs) (digits_within-push before high b some)
    ∙ append_assoc (digits_within before high) (b ∷ []) bs

-- a number of so many digits is below the power of two
pub number_from-below : (before after high : ℕ) (bs : List Bool) → after ≡ before + length bs → high < 2 ^ before → number_from high bs < 2 ^ after
number_from-below before after high [] same below =
    let e : before ≡ after = omega arith in
    subst (λ (i : ℕ). high < 2 ^ i) e below
number_from-below before after high (b ∷ bs) same below =
    let twice = power_doubled (before + 1) before (omega arith) in
    let digit = bit_value-below b in
    number_from-below (before + 1) after (2 * high + bit_value b) bs (omega arith) (omega arith)

-- a number that begins with a one is not 0
pub number_from-some : (high : ℕ) (bs : List Bool) → 1 ≤ high → 1 ≤ number_from high bs
number_from-some high [] some = some
number_from-some high (b ∷ bs) some = number_from-some (2 * high + bit_value b) bs (omega arith)

-- the digits of v spell v + 1
pub digits_value : (v : ℕ) → v + 1 < 2 ^ 39 → number_from 1 (digits_of v) ≡ v + 1
unfolding digits_of
digits_value v below = digits_within-value 38 (v + 1) (omega arith) below

-- a number has at most 38 digits behind its leading one
pub digits_few : (v : ℕ) → length (digits_of v) ≤ 38
unfolding digits_of
digits_few v = length-digits_within 38 (v + 1)

-- with no room there are no digits
no_digits : (bs : List Bool) → digits_within 0 1 ++ bs ≡ bs
unfolding digits_within
no_digits bs = refl

-- at most 38 digits are those of the number that they spell
pub digits_are : (bs : List Bool) → length bs ≤ 38 → digits_of (number_from 1 bs - 1) ≡ bs
unfolding digits_of
digits_are bs few =
    let some = number_from-some 1 bs (omega arith) in
    let same : number_from 1 bs - 1 + 1 ≡ number_from 1 bs = omega arith in
    let below = number_from-below 1 (length bs + 1) 1 bs (omega arith) (omega arith) in
    ap (digits_within 38) same ∙ digits_within-more (length bs) 38 (number_from 1 bs) few below
    ∙ digits_within-from (length bs) 0 1 bs (omega arith) (omega arith)
    ∙ no_digits bs

-- what a reader keeps while it takes digits: the number so far doubled, and the new digit
pub digits_push : (value : ℕ) (b : Bool) → 1 ≤ value → value < 2 ^ 38 → digits_of (2 * value + bit_value b - 1) ≡ digits_of (value - 1) ++ b ∷ []
unfolding digits_of
digits_push value b some below =
    let new : 2 * value + bit_value b - 1 + 1 ≡ 2 * value + bit_value b = omega arith in
    let old : value - 1 + 1 ≡ value = omega arith in
    ap (digits_within 38) new ∙ digits_within-push 37 value b some
    ∙ ap (λ ds. ds ++ b ∷ []) (sym (digits_within-more 37 38 value (omega arith) below) ∙ sym (ap (digits_within 38) old))
