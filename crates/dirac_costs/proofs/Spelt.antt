-- How many bits a signed number is spelt with.
use Rattle.std.proofs.Common.{◌≡◌, ℕ, zero, suc, ℤ, pos, negsuc, ◌+◌, ◌*◌, ◌/◌, ◌%◌, ◌==◌, ◌^◌, ◌<◌, ◌≤◌, unsigned_abs, Bool, true, false, List, [], ◌∷◌, length, refl, ◌∙◌, arith, length-append, inl, inr}
use Rattle.std.proofs.lemmas.Nat.{pow_pos}
use Rattle.std.proofs.Math.Pow.{pow_mono}
use Rattle.std.proofs.lemmas.Bool.{cases_lt, lt-ltb, le-ltb}
use Rattle.dirac_common.specs.Numbers.{digits_within, digits_of, followed, uint, sint}
use Rattle.dirac_common.proofs.Digits.{power_doubled}

-- a number from 2 ^ k to 2 ^ (k + 1) - 1 has k digits behind the leading one
digits_count : (most n k : ℕ) → 2 ^ k ≤ n → n < 2 ^ (k + 1) → k ≤ most → length (digits_within most n) ≡ k
unfolding digits_within
digits_count zero n k least most room = omega arith
digits_count (suc most) n zero least above room = rw (lt-ltb n 2 (omega arith)) refl
digits_count (suc most) n (suc k) least above room =
    let once = power_doubled (suc k) k (omega arith) in
    let twice = power_doubled (suc k + 1) (k + 1) (omega arith) in
    let power : 0 < 2 ^ k = pow_pos k in
    let half = digits_count most (n / 2) k (omega arith) (omega arith) (omega arith) in
    rw (le-ltb n 2 (omega arith)) (length-append (digits_within most (n / 2)) ((n % 2 == 1) ∷ []) ∙ omega (arith, half))

-- each digit has a follow bit before it
followed_count : (bs : List Bool) → length (followed bs) ≡ 2 * length bs
followed_count [] = refl
followed_count (b ∷ bs) = omega (arith, followed_count bs)

uint_count : (n k : ℕ) → 2 ^ k ≤ n + 1 → n + 1 < 2 ^ (k + 1) → k ≤ 38 → length (uint n) ≡ 2 * k + 1
unfolding digits_of
uint_count n k least most few =
    length-append (followed (digits_of n)) (true ∷ []) ∙ omega (arith, followed_count (digits_of n), digits_count 38 (n + 1) k least most few)

-- a signed number has its magnitude's bits, and where it isn't 0 a sign
pub sint_count : (v : ℤ) (k : ℕ) → 1 ≤ unsigned_abs v → 2 ^ k ≤ unsigned_abs v + 1 → unsigned_abs v + 1 < 2 ^ (k + 1) → k ≤ 38 → 2 * k + 2 ≡ length (sint v)
sint_count (pos zero) k some least most few = absurd (omega arith)
sint_count (pos (suc n)) k some least most few = omega (arith, length-append (uint (suc n)) (false ∷ []), uint_count (suc n) k least most few)
sint_count (negsuc n) k some least most few = omega (arith, length-append (uint (suc n)) (true ∷ []), uint_count (suc n) k least most few)

-- 0 is spelt with one bit
pub sint_of_none : (v : ℤ) → unsigned_abs v ≡ 0 → 1 ≡ length (sint v)
unfolding digits_of digits_within
sint_of_none (pos zero) none = refl
sint_of_none (pos (suc n)) none = absurd (omega arith)
sint_of_none (negsuc n) none = absurd (omega arith)

-- a magnitude of 32 bits has few digits
pub digits_few : (n k : ℕ) → 2 ^ k ≤ n → n < 2 ^ 38 → k ≤ 38
digits_few n k least small = elim (cases_lt k 38) [
  | inl below ↦ omega arith
  | inr above ↦ let power : 2 ^ 38 ≤ 2 ^ k = pow_mono above in absurd (omega arith)
]
