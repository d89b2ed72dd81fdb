-- The front of a block grows bit by bit and byte by byte.
use Rattle.std.proofs.Common.{◌≡◌, ℕ, zero, suc, ◌+◌, ◌*◌, ◌^◌, ◌<◌, ◌==◌, Bool, true, false, ◌&&◌, List, [], ◌∷◌, ◌++◌, length, get_or, drop, inl, inr, refl, ap, ◌∙◌, arith, zero-add}
use Rattle.std.proofs.Math.Nat.{two-pow-succ}
use Rattle.std.proofs.lemmas.Bool.{and_parts, eqb-true, cases_eq}
use Rattle.dirac_common.specs.Bits.{byte_bits, bits_of, bit_value, number_from}
use Rattle.dirac_arith.specs.Front.{first_bits, front}

-- one power of two more
pub twice_pow : (n : ℕ) → 2 ^ suc n ≡ 2 * 2 ^ n
twice_pow n = let e = two-pow-succ n in omega arith

digit_weight : (high v p f whole alone : ℕ) → whole ≡ (2 * high + v) * p + f → alone ≡ (2 * 0 + v) * p + f → whole ≡ high * (2 * p) + alone
digit_weight high v p f whole alone h a = omega arith

-- a number before digits weighs by their count
pub number_high : (high : ℕ) (bits : List Bool) → number_from high bits ≡ high * 2 ^ length bits + number_from 0 bits
number_high high [] = omega arith
number_high high (b ∷ bs) =
    let here : number_from high (b ∷ bs) ≡ (2 * high + bit_value b) * 2 ^ length bs + number_from 0 bs = number_high (2 * high + bit_value b) bs in
    let alone : number_from 0 (b ∷ bs) ≡ (2 * 0 + bit_value b) * 2 ^ length bs + number_from 0 bs = number_high (2 * 0 + bit_value b) bs in
    rw (twice_pow (length bs)) (digit_weight high (bit_value b) (2 ^ length bs) (number_from 0 bs) _ _ here alone)

-- the number of two lists of digits
pub number_push : (high : ℕ) (xs ys : List Bool) → number_from high (xs ++ ys) ≡ number_from (number_from high xs) ys
number_push high [] ys = refl
number_push high (x ∷ xs) ys = number_push (2 * high + bit_value x) xs ys

-- digits are below the power of their count
pub number_below : (bits : List Bool) → number_from 0 bits < 2 ^ length bits
number_below [] = omega arith
number_below (true ∷ bs) =
    let here : number_from 0 (true ∷ bs) ≡ 1 * 2 ^ length bs + number_from 0 bs = number_high 1 bs in
    let below = number_below bs in
    let twice : 2 ^ length (true ∷ bs) ≡ 2 * 2 ^ length bs = twice_pow (length bs) in
    omega arith
number_below (false ∷ bs) =
    let below : number_from 0 (false ∷ bs) < 2 ^ length bs = number_below bs in
    let twice : 2 ^ length (false ∷ bs) ≡ 2 * 2 ^ length bs = twice_pow (length bs) in
    omega arith

pub first_length : (bits : List Bool) (n : ℕ) → length (first_bits bits n) ≡ n
unfolding first_bits
first_length bits zero = refl
first_length [] (suc n) = ap suc (first_length [] n)
first_length (b ∷ bs) (suc n) = ap suc (first_length bs n)

drop_none : (n : ℕ) → drop {A = Bool} n [] ≡ []
drop_none zero = refl
drop_none (suc n) = refl

-- bits after the first n
pub first_more : (bits : List Bool) (n j : ℕ) → first_bits bits (n + j) ≡ first_bits bits n ++ first_bits (drop n bits) j
unfolding first_bits
first_more bits zero j = rw zero-add
first_more [] (suc n) j = let e : suc n + j ≡ suc (n + j) = omega arith in rw e (ap (λ bs. true ∷ bs) (first_more [] n j ∙ ap (λ bs. first_bits [] n ++ first_bits bs j) (drop_none n)))
first_more (b ∷ bs) (suc n) j = let e : suc n + j ≡ suc (n + j) = omega arith in rw e (ap (λ rest. b ∷ rest) (first_more bs n j))

-- the number that the bits behind the first n spell
abbrev pub rest_of : List ℕ → ℕ → ℕ → ℕ
rest_of block n j = number_from 0 (first_bits (drop n (bits_of block)) j)

pub rest_below : (block : List ℕ) (n j : ℕ) → rest_of block n j < 2 ^ j
rest_below block n j =
    let bits = first_bits (drop n (bits_of block)) j in
    let below = number_below bits in
    let e = first_length (drop n (bits_of block)) j in
    rw e at below

-- the front is below the power of its length
pub front_below : (block : List ℕ) (n : ℕ) → front block n < 2 ^ n
unfolding front
front_below block n =
    let below = number_below (first_bits (bits_of block) n) in
    rw (first_length (bits_of block) n) at below

-- more bits of the front
pub front_longer : (block : List ℕ) (n j : ℕ) → front block (n + j) ≡ front block n * 2 ^ j + rest_of block n j
unfolding front
front_longer block n j =
    let bits = bits_of block in
    let more = first_bits (drop n bits) j in
    let grown = ap (number_from 0) (first_more bits n j) ∙ number_push 0 (first_bits bits n) more ∙ number_high (number_from 0 (first_bits bits n)) more in
    rw (first_length (drop n bits) j) at grown

abbrev byte_test : ℕ → Bool
byte_test b = number_from 0 (byte_bits b []) == b

unfoldable pub all_below : (ℕ → Bool) → ℕ → Bool
all_below p zero = true
all_below p (suc n) = p n && all_below p n

-- what was tested of each number below n
pub passes_below : (p : ℕ → Bool) (n i : ℕ) → all_below p n ≡ true → i < n → p i ≡ true
unfolding all_below
passes_below p zero i all below = absurd (omega arith)
passes_below p (suc n) i all below =
    let parts = and_parts (p n) (all_below p n) all in
    elim (cases_eq i n) [ inl e ↦ ap p e ∙ parts.0 | inr other ↦ passes_below p n i parts.1 (omega arith) ]

bytes_fit : all_below byte_test 256 ≡ true
unfolding all_below
bytes_fit = refl

-- the bits of a byte spell it
pub byte_value : (b : ℕ) → b < 256 → number_from 0 (byte_bits b []) ≡ b
byte_value b below = eqb-true (number_from 0 (byte_bits b [])) b (passes_below byte_test 256 b bytes_fit below)

-- the bits of byte m, ones past the end
byte_bits_at : (block : List ℕ) (m : ℕ) → first_bits (drop (8 * m) (bits_of block)) 8 ≡ byte_bits (get_or block m 255) []
unfolding first_bits
byte_bits_at [] zero = refl
byte_bits_at [] (suc m) = let e : 8 * suc m ≡ suc (8 * m + 7) = omega arith in rw e refl
byte_bits_at (b ∷ bs) zero = refl
byte_bits_at (b ∷ bs) (suc m) =
    let e : 8 * suc m ≡ suc (suc (suc (suc (suc (suc (suc (suc (8 * m)))))))) = omega arith in
    rw e (byte_bits_at bs m)

-- one byte more of the front
pub front_byte : (block : List ℕ) (m : ℕ) → get_or block m 255 < 256 → front block (8 * (m + 1)) ≡ front block (8 * m) * 256 + get_or block m 255
front_byte block m fits =
    let e : 8 * (m + 1) ≡ 8 * m + 8 = omega arith in
    let rest = ap (number_from 0) (byte_bits_at block m) ∙ byte_value (get_or block m 255) fits in
    rw e (front_longer block (8 * m) 8 ∙ ap (λ r. front block (8 * m) * 256 + r) rest)
