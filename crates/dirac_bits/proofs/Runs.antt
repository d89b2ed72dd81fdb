-- Runs of bits.
use Rattle.std.proofs.Common.{◌≡◌, ℕ, zero, suc, ◌+◌, ◌-◌, ◌*◌, ◌/◌, ◌%◌, ◌<◌, ◌≤◌, ◌^◌, ◌==◌, Bool, true, false, List, [], ◌∷◌, ◌++◌, length, refl, sym, ap, ◌∙◌, arith, append_assoc, length-append, pow_mono}
use Rattle.std.proofs.lemmas.List.{append-nil}
use Rattle.std.proofs.lemmas.Nat.{shr-shr, div-mul-add, div-add-mod', shl_whole}
use Rattle.dirac_common.specs.Bits.{byte_bits, bits_of, bit_value}
use Rattle.dirac_common.specs.Numbers.{digits_of, digits_within, followed, literal}
use Rattle.dirac_common.proofs.Digits.{power_doubled, digits_push}
use Rattle.dirac_bits.specs.Writing.{bits_below}

-- so many bits
pub length-bits_below : (count n : ℕ) → length (bits_below count n) ≡ count
unfolding bits_below
length-bits_below zero n = refl
length-bits_below (suc count) n = omega (arith, length-bits_below count (n / 2), length-append (bits_below count (n / 2)) ((n % 2 == 1) ∷ []))

-- the higher bits, then the lower ones
pub bits_below-parts : (high low n : ℕ) → bits_below (high + low) n ≡ bits_below high (n / 2 ^ low) ++ bits_below low n
unfolding bits_below
bits_below-parts high zero n =
    let none : high + 0 ≡ high = omega arith in
    let whole : n / 2 ^ 0 ≡ n = omega arith in
    rw (none, whole) (sym (append-nil (bits_below high n)))
bits_below-parts high (suc low) n =
    let count : high + suc low ≡ suc (high + low) = omega arith in
    let next : 1 + low ≡ suc low = omega arith in
    let twice : n / 2 / 2 ^ low ≡ n / 2 ^ suc low = shr-shr n 1 low ∙ ap (λ k. n / 2 ^ k) next in
    rw count
    (ap (λ bits. bits ++ (n % 2 == 1) ∷ []) (bits_below-parts high low (n / 2) ∙ ap (λ m. bits_below high m ++ bits_below low (n / 2)) twice)
    ∙ append_assoc (bits_below high (n / 2 ^ suc low)) (bits_below low (n / 2)) ((n % 2 == 1) ∷ []))

-- higher bits change no lower ones
pub bits_below-low : (count high n : ℕ) → bits_below count (high * 2 ^ count + n) ≡ bits_below count n
unfolding bits_below
bits_below-low zero high n = refl
bits_below-low (suc count) high n =
    let twice = power_doubled (suc count) count (omega arith) in
    let product : high * 2 ^ suc count ≡ 2 * (high * 2 ^ count) = rw twice (omega arith) in
    let half : (high * 2 ^ suc count + n) / 2 ≡ high * 2 ^ count + n / 2 = omega arith in
    let last : (high * 2 ^ suc count + n) % 2 ≡ n % 2 = omega arith in
    rw (half, last, bits_below-low count high (n / 2)) refl

-- two runs, one behind the other
pub bits_below-both : (first second a b : ℕ) → b < 2 ^ second → bits_below (first + second) (a * 2 ^ second + b) ≡ bits_below first a ++ bits_below second b
bits_below-both first second a b fits =
    bits_below-parts first second (a * 2 ^ second + b)
    ∙ ap (λ n. bits_below first n ++ bits_below second (a * 2 ^ second + b)) (div-mul-add a (2 ^ second) b fits)
    ∙ ap (λ bits. bits_below first a ++ bits) (bits_below-low second a b)

-- the bits that are left of a number
pub bits_below-rest : (count n : ℕ) → bits_below count (n % 2 ^ count) ≡ bits_below count n
bits_below-rest count n =
    sym (bits_below-low count (n / 2 ^ count) (n % 2 ^ count)) ∙ ap (bits_below count) (div-add-mod' n (2 ^ count))

-- eight bits are a byte
pub bits_below-byte : (n : ℕ) → bits_below 8 n ≡ byte_bits (n % 256) []
unfolding bits_below
bits_below-byte n =
    let e7 : n / 2 / 2 / 2 / 2 / 2 / 2 / 2 % 2 ≡ n % 256 / 128 % 2 = omega arith in
    let e6 : n / 2 / 2 / 2 / 2 / 2 / 2 % 2 ≡ n % 256 / 64 % 2 = omega arith in
    let e5 : n / 2 / 2 / 2 / 2 / 2 % 2 ≡ n % 256 / 32 % 2 = omega arith in
    let e4 : n / 2 / 2 / 2 / 2 % 2 ≡ n % 256 / 16 % 2 = omega arith in
    let e3 : n / 2 / 2 / 2 % 2 ≡ n % 256 / 8 % 2 = omega arith in
    let e2 : n / 2 / 2 % 2 ≡ n % 256 / 4 % 2 = omega arith in
    let e1 : n / 2 % 2 ≡ n % 256 / 2 % 2 = omega arith in
    let e0 : n % 2 ≡ n % 256 / 1 % 2 = omega arith in
    rw (e7, e6, e5, e4, e3, e2, e1, e0) refl

-- bits of bytes
pub bits_of-append : (a b : List ℕ) → bits_of (a ++ b) ≡ bits_of a ++ bits_of b
bits_of-append [] b = refl
bits_of-append (x ∷ a) b = ap (byte_bits x) (bits_of-append a b)

-- a literal
pub bits_below_literal : (v : ℕ) → bits_below 32 v ≡ literal v
bits_below_literal v =
    bits_below-parts 8 24 v
    ∙ ap (λ bits. bits ++ bits_below 24 v) (bits_below-byte (v / 16777216))
    ∙ ap (byte_bits (v / 16777216 % 256))
    (bits_below-parts 8 16 v
    ∙ ap (λ bits. bits ++ bits_below 16 v) (bits_below-byte (v / 65536))
    ∙ ap (byte_bits (v / 65536 % 256))
    (bits_below-parts 8 8 v
    ∙ ap (λ bits. bits ++ bits_below 8 v) (bits_below-byte (v / 256))
    ∙ ap (byte_bits (v / 256 % 256)) (bits_below-byte v)))

-- ---- numbers

followed-append : (a : List Bool) (b : Bool) → followed (a ++ b ∷ []) ≡ followed a ++ false ∷ b ∷ []
followed-append [] b = refl
followed-append (x ∷ a) b = ap (λ bits. false ∷ x ∷ bits) (followed-append a b)

-- a digit as a bit
bit_value-digit : (digit : ℕ) → digit < 2 → bit_value (digit == 1) ≡ digit
bit_value-digit zero h = refl
bit_value-digit (suc zero) h = refl
bit_value-digit (suc (suc digit)) h = absurd (omega arith)

-- a digit with its follow bit 0
pub bits_below-digit : (count digit n : ℕ) → digit < 2 → n < 2 ^ count → bits_below (count + 2) (digit * 2 ^ count + n) ≡ false ∷ (digit == 1) ∷ bits_below count n
unfolding bits_below
bits_below-digit count digit n small fits =
    let order : count + 2 ≡ 2 + count = omega arith in
    let half : digit / 2 % 2 ≡ 0 = omega arith in
    let last : digit % 2 ≡ digit = omega arith in
    let two : bits_below 2 digit ≡ false ∷ (digit == 1) ∷ [] = rw (half, last) refl in
    ap (λ k. bits_below k (digit * 2 ^ count + n)) order
    ∙ bits_below-both 2 count digit n fits
    ∙ ap (λ bits. bits ++ bits_below count n) two

-- the last digit of a number that is 2 or more
pub digits_of-last : (rest : ℕ) → 2 ≤ rest → rest < 2 ^ 39 → digits_of (rest - 1) ≡ digits_of (rest / 2 - 1) ++ (rest % 2 == 1) ∷ []
digits_of-last rest some below =
    let twice = power_doubled 39 38 (omega arith) in
    let whole : 2 * (rest / 2) + bit_value (rest % 2 == 1) - 1 ≡ rest - 1 = omega (arith, bit_value-digit (rest % 2) (omega arith)) in
    ap digits_of (sym whole) ∙ digits_push (rest / 2) (rest % 2 == 1) (omega arith) (omega arith)

-- one digit less is left, and one more stands in the run
pub uint_step : (rest count n : ℕ) (bits : List Bool) → 2 ≤ rest → rest < 2 ^ 39 → n < 2 ^ count
    → followed (digits_of (rest - 1)) ++ bits_below count n ≡ bits
    → followed (digits_of (rest / 2 - 1)) ++ bits_below (count + 2) (rest % 2 * 2 ^ count + n) ≡ bits
uint_step rest count n bits some below fits is =
    let split = ap followed (digits_of-last rest some below) ∙ followed-append (digits_of (rest / 2 - 1)) (rest % 2 == 1) in
    ap (λ more. followed (digits_of (rest / 2 - 1)) ++ more) (bits_below-digit count (rest % 2) n (omega arith) fits)
    ∙ sym (append_assoc (followed (digits_of (rest / 2 - 1))) (false ∷ (rest % 2 == 1) ∷ []) (bits_below count n))
    ∙ ap (λ front. front ++ bits_below count n) (sym split)
    ∙ is

-- the last follow bit
pub last_bit : bits_below 1 1 ≡ true ∷ []
unfolding bits_below
last_bit = refl

-- no digit is left
pub digits_of-none : digits_of 0 ≡ []
unfolding digits_of digits_within
digits_of-none = refl

-- a digit before a run of so many bits
pub digit_before : (count digit n : ℕ) → digit < 2 → count ≤ 75 → n < 2 ^ count
    → (digit * 2 ^ count % 2 ^ 128 ≡ digit * 2 ^ count) × (digit * 2 ^ count + n < 2 ^ (count + 2)) × (digit * 2 ^ count + n < 2 ^ 128)
digit_before count zero n small few fits =
    let wide : count ≤ 128 = omega arith in
    let wider : count ≤ count + 2 = omega arith in
    let most : 2 ^ count ≤ 2 ^ 128 = pow_mono wide in
    let more : 2 ^ count ≤ 2 ^ (count + 2) = pow_mono wider in
    (shl_whole 0 1 count 128 (omega arith) (omega arith), omega arith, omega arith)
digit_before count (suc zero) n small few fits =
    let twice = power_doubled (count + 1) count refl in
    let wide : count + 1 ≤ 127 = omega arith in
    let wider : count + 1 ≤ count + 2 = omega arith in
    let most : 2 ^ (count + 1) ≤ 2 ^ 127 = pow_mono wide in
    let more : 2 ^ (count + 1) ≤ 2 ^ (count + 2) = pow_mono wider in
    (shl_whole 1 1 count 128 (omega arith) (omega arith), omega arith, omega arith)
digit_before count (suc (suc digit)) n small few fits = absurd (omega arith)

-- where a number of two digits is below a power of two
pub some_room : (rest k : ℕ) → 2 ≤ rest → rest < 2 ^ k → 2 ≤ k
some_room rest zero some below = absurd (omega arith)
some_room rest (suc zero) some below = absurd (omega arith)
some_room rest (suc (suc k)) some below = omega arith
