-- Numbers that bytes hold.
use Rattle.std.proofs.Common.{◌≡◌, ℕ, zero, suc, ◌+◌, ◌*◌, ◌/◌, ◌%◌, ◌^◌, ◌<◌, List, [], ◌∷◌, ◌++◌, length, get_or, set, drop, refl, ap, ◌∙◌, arith, mul-le-mul_right, mod-eq_of_lt}
use Rattle.std.proofs.lemmas.Nat.{pow_pos, pow-add, shr_high, shr_split, mod-pow-add, mod_below}
use Rattle.dirac_common.specs.Bits.{byte_bits, bits_of, number_from}
use Rattle.dirac_arith.specs.Front.{front, first_bits}
use Rattle.dirac_arith.specs.Tail.{bytes_from}
use Rattle.dirac_arith.specs.Written.{number_in_bytes}
use Rattle.dirac_arith.proofs.Fronts.{number_high, number_push, byte_value, twice_pow, rest_of}

-- eight bits more for each byte
pub pow_byte : (n : ℕ) → 2 ^ (8 * suc n) ≡ 2 ^ (8 * n) * 256
pow_byte n = let e : 8 * suc n ≡ 8 * n + 8 = omega arith in rw e (pow-add 2 (8 * n) 8)

byte_weight : (high b p f whole alone : ℕ) → whole ≡ (high * 256 + b) * p + f → alone ≡ (0 * 256 + b) * p + f → whole ≡ high * (p * 256) + alone
byte_weight high b p f whole alone h a = omega arith

-- a number before bytes weighs by their count
pub bytes_high : (high : ℕ) (bs : List ℕ) → bytes_from high bs ≡ high * 2 ^ (8 * length bs) + bytes_from 0 bs
bytes_high high [] = omega arith
bytes_high high (b ∷ bs) =
    let here : bytes_from high (b ∷ bs) ≡ (high * 256 + b) * 2 ^ (8 * length bs) + bytes_from 0 bs = bytes_high (high * 256 + b) bs in
    let alone : bytes_from 0 (b ∷ bs) ≡ (0 * 256 + b) * 2 ^ (8 * length bs) + bytes_from 0 bs = bytes_high (0 * 256 + b) bs in
    rw (pow_byte (length bs)) (byte_weight high b (2 ^ (8 * length bs)) (bytes_from 0 bs) _ _ here alone)

-- one byte more
pub bytes_push : (high : ℕ) (bs : List ℕ) (b : ℕ) → bytes_from high (bs ++ b ∷ []) ≡ bytes_from high bs * 256 + b
bytes_push high [] b = refl
bytes_push high (x ∷ bs) b = bytes_push (high * 256 + x) bs b

-- a byte replaced
pub bytes_set : (high : ℕ) (bs : List ℕ) (i v rest : ℕ) → i + suc rest ≡ length bs
    → bytes_from high (set bs i v) + get_or bs i 0 * 2 ^ (8 * rest) ≡ bytes_from high bs + v * 2 ^ (8 * rest)
bytes_set high [] i v rest at = absurd (omega arith)
bytes_set high (b ∷ bs) zero v rest at =
    let e : rest ≡ length bs = omega arith in
    let old = bytes_high (high * 256 + b) bs in
    let new = bytes_high (high * 256 + v) bs in
    rw e (replaced high b v (2 ^ (8 * length bs)) (bytes_from 0 bs) _ _ old new) where
      replaced : (high b v p f old new : ℕ) → old ≡ (high * 256 + b) * p + f → new ≡ (high * 256 + v) * p + f → new + b * p ≡ old + v * p
      replaced high b v p f old new h h' = omega arith
bytes_set high (b ∷ bs) (suc i) v rest at = bytes_set (high * 256 + b) bs i v rest (omega arith)

-- the number of bytes is below the power of their count
pub bytes_below : (bs : List ℕ) → ((i : ℕ) → get_or bs i 0 < 256) → bytes_from 0 bs < 2 ^ (8 * length bs)
bytes_below [] fits = omega arith
bytes_below (b ∷ bs) fits =
    let p = 2 ^ (8 * length bs) in
    let number : bytes_from 0 (b ∷ bs) ≡ b * p + bytes_from 0 bs = bytes_high (0 * 256 + b) bs ∙ omega arith in
    let below = bytes_below bs (λ i. fits (suc i)) in
    let byte : b < 256 = fits 0 in
    let most = mul-le-mul_right {m = suc b} {n = 256} p byte in
    rw (pow_byte (length bs)) (omega arith)

-- bytes of the lower part of a number
bytes_of_low : (n h r : ℕ) → number_in_bytes n (h * 2 ^ (8 * n) + r) ≡ number_in_bytes n r
unfolding number_in_bytes
bytes_of_low zero h r = refl
bytes_of_low (suc n) h r =
    let p = 2 ^ (8 * n) in
    let grown : h * 2 ^ (8 * suc n) ≡ h * 256 * p = rw (pow_byte n) (omega arith) in
    let number : h * 2 ^ (8 * suc n) + r ≡ h * 256 * p + r = omega arith in
    let upper : (h * 256 * p + r) / p ≡ h * 256 + r / p = parted h r in
    let first : (h * 256 * p + r) / p % 256 ≡ r / p % 256 = rw upper (omega arith) in
    rw number (ap (λ d. d ∷ number_in_bytes n (h * 256 * p + r)) first ∙ ap (λ ds. (r / p % 256) ∷ ds) (bytes_of_low n (h * 256) r)) where
      parted : (h r : ℕ) → (h * 256 * 2 ^ (8 * n) + r) / 2 ^ (8 * n) ≡ h * 256 + r / 2 ^ (8 * n)
      parted h r =
          let split = shr_split r (8 * n) in
          let below = mod_below r (2 ^ (8 * n)) (pow_pos (8 * n)) in
          let e : h * 256 * 2 ^ (8 * n) + r ≡ (h * 256 + r / 2 ^ (8 * n)) * 2 ^ (8 * n) + r % 2 ^ (8 * n) = omega arith in
          rw e (shr_high (h * 256 + r / 2 ^ (8 * n)) (8 * n) (r % 2 ^ (8 * n)) below)

-- the bytes that hold the number of bytes are these
pub bytes_of_number : (bs : List ℕ) → ((i : ℕ) → get_or bs i 0 < 256) → number_in_bytes (length bs) (bytes_from 0 bs) ≡ bs
unfolding number_in_bytes
bytes_of_number [] fits = refl
bytes_of_number (b ∷ bs) fits =
    let p = 2 ^ (8 * length bs) in
    let number : bytes_from 0 (b ∷ bs) ≡ b * p + bytes_from 0 bs = bytes_high (0 * 256 + b) bs ∙ omega arith in
    let below = bytes_below bs (λ i. fits (suc i)) in
    let byte : b < 256 = fits 0 in
    let upper : (b * p + bytes_from 0 bs) / p ≡ b = shr_high b (8 * length bs) (bytes_from 0 bs) below in
    let first : (b * p + bytes_from 0 bs) / p % 256 ≡ b = rw upper (mod-eq_of_lt byte) in
    rw number (ap (λ d. d ∷ number_in_bytes (length bs) (b * p + bytes_from 0 bs)) first
    ∙ ap (λ ds. b ∷ ds) (bytes_of_low (length bs) b (bytes_from 0 bs) ∙ bytes_of_number bs (λ i. fits (suc i))))

-- the bits of the bytes of a number spell its lower part
number_of_bytes : (high m n : ℕ) → number_from high (first_bits (bits_of (number_in_bytes m n)) (8 * m)) ≡ high * 2 ^ (8 * m) + n % 2 ^ (8 * m)
unfolding number_in_bytes first_bits
number_of_bytes high zero n = let e : high ≡ high * 1 + n % 1 = omega arith in e
number_of_bytes high (suc m) n =
    let d = n / 2 ^ (8 * m) % 256 in
    let rest = first_bits (bits_of (number_in_bytes m n)) (8 * m) in
    let byte = byte_value d (mod_below (n / 2 ^ (8 * m)) 256 (omega arith)) in
    let value : number_from high (byte_bits d []) ≡ high * 256 + d = number_high high (byte_bits d []) ∙ ap (λ x. high * 256 + x) byte in
    let e : 8 * suc m ≡ suc (suc (suc (suc (suc (suc (suc (suc (8 * m)))))))) = omega arith in
    let split = mod-pow-add n 8 (8 * m) in
    let sum : 8 + 8 * m ≡ 8 * suc m = omega arith in
    let parted : n % 2 ^ (8 * suc m) ≡ d * 2 ^ (8 * m) + n % 2 ^ (8 * m) = rw sum at split in
    ap (λ k. number_from high (first_bits (bits_of (d ∷ number_in_bytes m n)) k)) e
    ∙ number_push high (byte_bits d []) rest
    ∙ ap (λ h. number_from h rest) value
    ∙ number_of_bytes (high * 256 + d) m n
    ∙ joined high d (2 ^ (8 * m)) (n % 2 ^ (8 * m)) (2 ^ (8 * suc m)) (n % 2 ^ (8 * suc m)) (pow_byte m) parted
  where
    joined : (high d p r q s : ℕ) → q ≡ p * 256 → s ≡ d * p + r → (high * 256 + d) * p + r ≡ high * q + s
    joined high d p r q s q_is s_is = rw q_is (omega arith)

-- the front of the bytes of a number is the number
pub front_of_bytes : (m n : ℕ) → n < 2 ^ (8 * m) → front (number_in_bytes m n) (8 * m) ≡ n
unfolding front
front_of_bytes m n below = number_of_bytes 0 m n ∙ omega (arith, mod-eq_of_lt below)

-- so many bytes
pub length-bytes_of : (m n : ℕ) → length (number_in_bytes m n) ≡ m
unfolding number_in_bytes
length-bytes_of zero n = refl
length-bytes_of (suc m) n = ap suc (length-bytes_of m n)

none_left : (block : List ℕ) → drop (8 * length block) (bits_of block) ≡ []
none_left [] = refl
none_left (b ∷ bs) =
    let e : 8 * suc (length bs) ≡ suc (suc (suc (suc (suc (suc (suc (suc (8 * length bs)))))))) = omega arith in
    ap (λ k. drop k (bits_of (b ∷ bs))) e ∙ none_left bs

ones_only : (high j : ℕ) → number_from high (first_bits [] j) + 1 ≡ (high + 1) * 2 ^ j
unfolding first_bits
ones_only high zero = omega arith
ones_only high (suc j) =
    let more : number_from high (first_bits [] (suc j)) + 1 ≡ (2 * high + 1 + 1) * 2 ^ j = ones_only (2 * high + 1) j in
    rw (twice_pow j) (more ∙ omega arith)

-- past the end of a block come ones
pub rest_past : (block : List ℕ) (j : ℕ) → rest_of block (8 * length block) j + 1 ≡ 2 ^ j
rest_past block j =
    ap (λ bits. number_from 0 (first_bits bits j) + 1) (none_left block) ∙ ones_only 0 j ∙ omega arith
