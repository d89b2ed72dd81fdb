-- Weighted samples, divided to the nearest.
use Rattle.std.proofs.Common.{◌≡◌, ℕ, ℤ, pos, negsuc, ◌*◌, ◌/◌, ◌%◌, ◌^◌, ◌<◌, ◌≤◌, ◌+ℤ◌, ◌*ℤ◌, unsigned_abs, to_z, of_z, arith, ap, ◌∙◌}
use Rattle.std.specs.Int.{w32}
use Rattle.std.proofs.lemmas.Int.{ints, to_z-of_z, to_z_pos, fits_signed_from_abs, unsigned_abs-mul}
use Rattle.std.proofs.lemmas.Nat.{mul-le, one_shl, div_below}
use Rattle.std.proofs.Math.Pow.{pow_mono}
use lib.Signed.{shr_z}
use Rattle.dirac_common.proofs.Shifts.{shr_sum_is}
use Rattle.dirac_vectors.specs.Neighbours.{IsShort}
use Rattle.dirac_upconvert.specs.HalfSamples.{IsSample}
use Rattle.dirac_upconvert.specs.SubSamples.{rounded}

-- a sample times a weight
pub product_small : (s w : ℤ) → IsSample s → unsigned_abs (s *ℤ w) ≤ 128 * unsigned_abs w
product_small s w h =
    let sample : unsigned_abs s ≤ 128 = omega (arith, ints, h.least, h.most) in
    omega (arith, unsigned_abs-mul s w, mul-le (unsigned_abs s) (unsigned_abs w) 128 (unsigned_abs w) sample (omega arith))

pub product_is : (s w : ℤ) → IsSample s → unsigned_abs w ≤ 510 → to_z w32 (of_z w32 (s *ℤ w)) ≡ s *ℤ w
product_is s w h l = to_z-of_z w32 (s *ℤ w) (fits_signed_from_abs w32 (s *ℤ w) (omega (arith, product_small s w h)))

-- a sum shifted down
shifted_small : (z : ℤ) (m : ℕ) → 2 ≤ m → unsigned_abs z ≤ 65536 → unsigned_abs (shr_z z m) ≤ 2 ^ 15
shifted_small (pos n) m two l =
    let few : n / m < 32769 = div_below n m 32769 (omega arith) (omega (arith, ints, mul-le 32769 2 32769 m (omega arith) two)) in
    omega (arith, ints, few)
shifted_small (negsuc n) m two l =
    let few : n / m < 32768 = div_below n m 32768 (omega arith) (omega (arith, ints, mul-le 32768 2 32768 m (omega arith) two)) in
    omega (arith, ints, few)

pub rounded_small : (z : ℤ) (bits : ℕ) → 1 ≤ bits → bits ≤ 8 → unsigned_abs z ≤ 65280 → unsigned_abs (rounded bits z) ≤ 2 ^ 15
rounded_small z bits some few l =
    let two : 2 ^ 1 ≤ 2 ^ bits = pow_mono {i = 1} {j = bits} some in
    let most : 2 ^ bits ≤ 2 ^ 8 = pow_mono {i = bits} {j = 8} few in
    shifted_small (z +ℤ pos (2 ^ bits / 2)) (2 ^ bits) (omega (arith, two)) (omega (arith, ints, most))

-- what is left of a sum of weighted samples has 16 bits
shifted_short : (z : ℤ) (m : ℕ) → 2 ≤ m → unsigned_abs z ≤ 65500 → IsShort (shr_z z m)
shifted_short (pos n) m two l =
    let few : n / m < 32768 = div_below n m 32768 (omega arith) (omega (arith, ints, l, mul-le 32768 2 32768 m (omega arith) two)) in
    record { least = omega (arith, ints, few); most = omega (arith, ints, few) }
shifted_short (negsuc n) m two l =
    let few : n / m < 32768 = div_below n m 32768 (omega arith) (omega (arith, ints, l, mul-le 32768 2 32768 m (omega arith) two)) in
    record { least = omega (arith, ints, few); most = omega (arith, ints, few) }

pub rounded_short : (z : ℤ) (bits : ℕ) → 1 ≤ bits → bits ≤ 8 → unsigned_abs z ≤ 65280 → IsShort (rounded bits z)
rounded_short z bits some few l =
    let two : 2 ^ 1 ≤ 2 ^ bits = pow_mono {i = 1} {j = bits} some in
    let most : 2 ^ bits ≤ 2 ^ 8 = pow_mono {i = bits} {j = 8} few in
    shifted_short (z +ℤ pos (2 ^ bits / 2)) (2 ^ bits) (omega (arith, two)) (omega (arith, ints, l, most))

-- a power of two, as the code shifts it
power_is : (m : ℕ) → m ≤ 8 → to_z w32 (1 * 2 ^ m % 2 ^ 32) ≡ pos (2 ^ m)
power_is m l =
    let small : 2 ^ m ≤ 2 ^ 8 = pow_mono {i = m} {j = 8} l in
    ap (to_z w32) (one_shl m 32 (omega arith)) ∙ to_z_pos w32 (2 ^ m) (omega arith)

-- the code's rounded sum
pub rounded_is : (x : ℤ) (m : ℕ) → m ≤ 8 → unsigned_abs x ≤ 65280 → to_z w32 (of_z w32 (shr_z (to_z w32 (of_z w32 (to_z w32 (of_z w32 x) +ℤ to_z w32 (of_z w32 (shr_z (to_z w32 (1 * 2 ^ m % 2 ^ 32)) 2))))) (2 ^ m))) ≡ rounded m x
rounded_is x m l h =
    let small : 2 ^ m ≤ 2 ^ 8 = pow_mono {i = m} {j = 8} l in
    let half : shr_z (to_z w32 (1 * 2 ^ m % 2 ^ 32)) 2 ≡ pos (2 ^ m / 2) = ap (λ z. shr_z z 2) (power_is m l) in
    ap (λ z. to_z w32 (of_z w32 (shr_z (to_z w32 (of_z w32 (to_z w32 (of_z w32 x) +ℤ to_z w32 (of_z w32 z)))) (2 ^ m)))) half
    ∙ shr_sum_is w32 x (pos (2 ^ m / 2)) (2 ^ m) (fits_signed_from_abs w32 x (omega arith)) (fits_signed_from_abs w32 (pos (2 ^ m / 2)) (omega arith))
    (fits_signed_from_abs w32 (x +ℤ pos (2 ^ m / 2)) (omega (arith, ints)))
