-- Positions between places, and the weighted sums of the samples round them.
use Rattle.std.proofs.Common.{◌≡◌, ℕ, ℤ, pos, negsuc, zero, suc, ◌+◌, ◌*◌, ◌/◌, ◌%◌, ◌^◌, ◌<◌, ◌≤◌, ◌+ℤ◌, ◌-ℤ◌, ◌*ℤ◌, ◌≤ℤ◌, ◌<ℤ◌, unsigned_abs, to_z, of_z, arith, refl, ap, ◌∙◌}
use Rattle.std.specs.Int.{w16, int_rem_euclid}
use Rattle.std.proofs.lemmas.Int.{ints, to_z-of_z, to_z_pos, fits_signed_from_abs, unsigned_abs-mul}
use Rattle.std.proofs.lemmas.Nat.{mul-le, one_shl, pow_pos, div-add-mod', div_below, mod_below}
use Rattle.std.proofs.Math.Nat.{suc-mul}
use Rattle.std.proofs.Math.Pow.{pow_mono}
use Rattle.std.proofs.Math.IntN.{zero-*ℤ, suc_ℤ-*ℤ, pred_ℤ-*ℤ}
use lib.Signed.{shr_z}
use mir.Val.{SFits}
use Rattle.dirac_common.proofs.Shifts.{shr_sum_is}
use Rattle.dirac_upconvert.specs.HalfSamples.{IsSample}
use Rattle.dirac_upconvert.specs.SubSamples.{IsRest, IsWithin, mixed, product, rounded}

-- a product of a sum
times_sum_pos : (n : ℕ) (x y : ℤ) → pos n *ℤ (x +ℤ y) ≡ pos n *ℤ x +ℤ pos n *ℤ y
times_sum_pos zero x y = rw (zero-*ℤ (x +ℤ y), zero-*ℤ x, zero-*ℤ y) refl
times_sum_pos (suc n) x y =
    omega (arith, ints, times_sum_pos n x y, suc_ℤ-*ℤ (pos n) (x +ℤ y), suc_ℤ-*ℤ (pos n) x, suc_ℤ-*ℤ (pos n) y)

times_sum_neg : (n : ℕ) (x y : ℤ) → negsuc n *ℤ (x +ℤ y) ≡ negsuc n *ℤ x +ℤ negsuc n *ℤ y
times_sum_neg zero x y =
    omega (arith, ints, times_sum_pos zero x y, pred_ℤ-*ℤ (pos zero) (x +ℤ y), pred_ℤ-*ℤ (pos zero) x, pred_ℤ-*ℤ (pos zero) y)
times_sum_neg (suc n) x y =
    omega (arith, ints, times_sum_neg n x y, pred_ℤ-*ℤ (negsuc n) (x +ℤ y), pred_ℤ-*ℤ (negsuc n) x, pred_ℤ-*ℤ (negsuc n) y)

times_sum : (m x y : ℤ) → m *ℤ (x +ℤ y) ≡ m *ℤ x +ℤ m *ℤ y
times_sum (pos n) x y = times_sum_pos n x y
times_sum (negsuc n) x y = times_sum_neg n x y

-- rows that are mixed are the sum of four products
pub four_products : (s : ℕ) (r b v00 v10 v01 v11 : ℤ) → mixed s b (mixed s r v00 v10) (mixed s r v01 v11)
    ≡ (product (pos s -ℤ r) (pos s -ℤ b) v00 +ℤ product r (pos s -ℤ b) v10) +ℤ (product (pos s -ℤ r) b v01 +ℤ product r b v11)
four_products s r b v00 v10 v01 v11 =
    ap (λ v. v +ℤ b *ℤ mixed s r v01 v11) (times_sum (pos s -ℤ b) ((pos s -ℤ r) *ℤ v00) (r *ℤ v10))
    ∙ ap (λ v. (product (pos s -ℤ r) (pos s -ℤ b) v00 +ℤ product r (pos s -ℤ b) v10) +ℤ v) (times_sum b ((pos s -ℤ r) *ℤ v01) (r *ℤ v11))

-- what is left of a position
pub remainder_is : (x : ℤ) (m : ℕ) → 0 < m → int_rem_euclid x (pos m) ≡ x -ℤ shr_z x m *ℤ pos m
remainder_is (pos n) m some = omega (arith, ints, div-add-mod' n m)
remainder_is (negsuc n) m some = omega (arith, ints, div-add-mod' n m, mod_below n m some, suc-mul (n / m) m)

pub remainder_rest : (x : ℤ) (bits : ℕ) → IsRest bits (int_rem_euclid x (pos (2 ^ bits)))
remainder_rest (pos n) bits = record { least = omega (arith, ints); most = omega (arith, ints, mod_below n (2 ^ bits) (pow_pos bits)) }
remainder_rest (negsuc n) bits = record { least = omega (arith, ints); most = omega (arith, ints, pow_pos bits) }

-- two values that are weighted by few positions
pub mixed_within : (bits m : ℕ) (rest a b : ℤ) → bits ≤ 2 → IsRest bits rest → IsWithin m a → IsWithin m b → IsWithin (2 ^ bits * m) (mixed (2 ^ bits) rest a b)
mixed_within bits m (negsuc n) a b few r p q = absurd (omega (arith, ints, r.least))
mixed_within zero m (pos zero) a b few r p q = record { least = omega (arith, ints, p.least, q.least); most = omega (arith, ints, p.most, q.most) }
mixed_within zero m (pos (suc n)) a b few r p q = absurd (omega (arith, ints, r.most))
mixed_within (suc zero) m (pos zero) a b few r p q = record { least = omega (arith, ints, p.least, q.least); most = omega (arith, ints, p.most, q.most) }
mixed_within (suc zero) m (pos (suc zero)) a b few r p q = record { least = omega (arith, ints, p.least, q.least); most = omega (arith, ints, p.most, q.most) }
mixed_within (suc zero) m (pos (suc (suc n))) a b few r p q = absurd (omega (arith, ints, r.most))
mixed_within (suc (suc zero)) m (pos zero) a b few r p q = record { least = omega (arith, ints, p.least, q.least); most = omega (arith, ints, p.most, q.most) }
mixed_within (suc (suc zero)) m (pos (suc zero)) a b few r p q = record { least = omega (arith, ints, p.least, q.least); most = omega (arith, ints, p.most, q.most) }
mixed_within (suc (suc zero)) m (pos (suc (suc zero))) a b few r p q = record { least = omega (arith, ints, p.least, q.least); most = omega (arith, ints, p.most, q.most) }
mixed_within (suc (suc zero)) m (pos (suc (suc (suc zero)))) a b few r p q = record { least = omega (arith, ints, p.least, q.least); most = omega (arith, ints, p.most, q.most) }
mixed_within (suc (suc zero)) m (pos (suc (suc (suc (suc n))))) a b few r p q = absurd (omega (arith, ints, r.most))
mixed_within (suc (suc (suc k))) m (pos n) a b few r p q = absurd (omega arith)

-- the products fit
pub left_fits : (bits : ℕ) (rest a : ℤ) → bits ≤ 2 → IsRest bits rest → IsWithin 4 a → 0 + unsigned_abs (pos (2 ^ bits) -ℤ rest) * unsigned_abs a ≤ 2 ^ 11
left_fits bits rest a few r p =
    let small : 2 ^ bits ≤ 2 ^ 2 = pow_mono {i = bits} {j = 2} few in
    let weight : unsigned_abs (pos (2 ^ bits) -ℤ rest) ≤ 4 = omega (arith, ints, small, r.least, r.most) in
    let value : unsigned_abs a ≤ 512 = omega (arith, ints, p.least, p.most) in
    omega (arith, mul-le (unsigned_abs (pos (2 ^ bits) -ℤ rest)) (unsigned_abs a) 4 512 weight value)

pub right_fits : (bits : ℕ) (rest a b first : ℤ) → bits ≤ 2 → IsRest bits rest → IsWithin 4 a → IsWithin 4 b → first ≡ pos 0 +ℤ (pos (2 ^ bits) -ℤ rest) *ℤ a
    → unsigned_abs first + unsigned_abs rest * unsigned_abs b ≤ 2 ^ 13
right_fits bits rest a b first few r p q e =
    let small : 2 ^ bits ≤ 2 ^ 2 = pow_mono {i = bits} {j = 2} few in
    let weight : unsigned_abs rest ≤ 4 = omega (arith, ints, small, r.least, r.most) in
    let value : unsigned_abs b ≤ 512 = omega (arith, ints, q.least, q.most) in
    let left : unsigned_abs ((pos (2 ^ bits) -ℤ rest) *ℤ a) ≤ 2 ^ 11 = omega (arith, left_fits bits rest a few r p, unsigned_abs-mul (pos (2 ^ bits) -ℤ rest) a) in
    let before : unsigned_abs first ≤ 2 ^ 11 = omega (arith, ints, e, left) in
    omega (arith, before, mul-le (unsigned_abs rest) (unsigned_abs b) 4 512 weight value)

-- the weights' difference, through the bits
pub weight_is : (bits : ℕ) (rest : ℤ) → bits ≤ 2 → IsRest bits rest → to_z w16 (of_z w16 (pos (2 ^ bits) -ℤ rest)) ≡ pos (2 ^ bits) -ℤ rest
weight_is bits rest few r =
    let small : 2 ^ bits ≤ 2 ^ 2 = pow_mono {i = bits} {j = 2} few in
    to_z-of_z w16 (pos (2 ^ bits) -ℤ rest) (fits_signed_from_abs w16 (pos (2 ^ bits) -ℤ rest) (omega (arith, ints, small, r.least, r.most)))

pub after_zero : (x y : ℤ) → (pos 0 +ℤ x) +ℤ y ≡ x +ℤ y
after_zero x y = omega (arith, ints)

-- one sample is a sum of one
pub sample_within : (n : ℕ) (v : ℤ) → 1 ≤ n → IsSample v → IsWithin n v
sample_within n v l s = record { least = omega (arith, ints, s.least); most = omega (arith, ints, s.most) }

pub within_small : (bits : ℕ) (v : ℤ) → bits ≤ 2 → IsWithin (2 ^ bits * (2 ^ bits * 1)) v → unsigned_abs v ≤ 2 ^ 13
within_small zero v few w = omega (arith, ints, w.least, w.most)
within_small (suc zero) v few w = omega (arith, ints, w.least, w.most)
within_small (suc (suc zero)) v few w = omega (arith, ints, w.least, w.most)
within_small (suc (suc (suc k))) v few w = absurd (omega arith)

-- sums of samples are larger
pub more_within : (m n : ℕ) (v : ℤ) → m ≤ n → IsWithin m v → IsWithin n v
more_within m n v l w = record { least = omega (arith, ints, w.least); most = omega (arith, ints, w.most) }

-- a sum of so many samples divided by their number
shifted_sample : (z : ℤ) (m : ℕ) → 0 < m → pos 0 ≤ℤ (z +ℤ pos (128 * m)) → z <ℤ pos (128 * m) → IsSample (shr_z z m)
shifted_sample (pos n) m some least most =
    let few : n / m < 128 = div_below n m 128 some (omega (arith, ints, most)) in
    record { least = omega (arith, ints); most = omega (arith, ints, few) }
shifted_sample (negsuc n) m some least most =
    let few : n / m < 128 = div_below n m 128 some (omega (arith, ints, least)) in
    record { least = omega (arith, ints, few); most = omega (arith, ints) }

pub rounded_sample : (bits : ℕ) (z : ℤ) → bits ≤ 2 → IsWithin (2 ^ bits * (2 ^ bits * 1)) z → IsSample (rounded (2 * bits) z)
rounded_sample zero z few w = shifted_sample (z +ℤ pos 0) 1 (omega arith) (omega (arith, ints, w.least)) (omega (arith, ints, w.most))
rounded_sample (suc zero) z few w = shifted_sample (z +ℤ pos 2) 4 (omega arith) (omega (arith, ints, w.least)) (omega (arith, ints, w.most))
rounded_sample (suc (suc zero)) z few w = shifted_sample (z +ℤ pos 8) 16 (omega arith) (omega (arith, ints, w.least)) (omega (arith, ints, w.most))
rounded_sample (suc (suc (suc k))) z few w = absurd (omega arith)

-- a power of two, as the code shifts it
pub power_is : (m : ℕ) → m ≤ 4 → to_z w16 (1 * 2 ^ m % 2 ^ 16) ≡ pos (2 ^ m)
power_is m l =
    let small : 2 ^ m ≤ 2 ^ 4 = pow_mono {i = m} {j = 4} l in
    ap (to_z w16) (one_shl m 16 (omega arith)) ∙ to_z_pos w16 (2 ^ m) (omega arith)

-- the code's rounded sum
pub rounded_is : (x : ℤ) (m : ℕ) → m ≤ 4 → unsigned_abs x ≤ 2 ^ 13 → to_z w16 (of_z w16 (shr_z (to_z w16 (of_z w16 (to_z w16 (of_z w16 x) +ℤ to_z w16 (of_z w16 (shr_z (to_z w16 (1 * 2 ^ m % 2 ^ 16)) 2))))) (2 ^ m))) ≡ rounded m x
rounded_is x m l h =
    let small : 2 ^ m ≤ 2 ^ 4 = pow_mono {i = m} {j = 4} l in
    let half : shr_z (to_z w16 (1 * 2 ^ m % 2 ^ 16)) 2 ≡ pos (2 ^ m / 2) = ap (λ z. shr_z z 2) (power_is m l) in
    ap (λ z. to_z w16 (of_z w16 (shr_z (to_z w16 (of_z w16 (to_z w16 (of_z w16 x) +ℤ to_z w16 (of_z w16 z)))) (2 ^ m)))) half
    ∙ shr_sum_is w16 x (pos (2 ^ m / 2)) (2 ^ m) (fits_signed_from_abs w16 x (omega arith)) (fits_signed_from_abs w16 (pos (2 ^ m / 2)) (omega arith))
    (fits_signed_from_abs w16 (x +ℤ pos (2 ^ m / 2)) (omega (arith, ints)))

-- a product that is added, and the sum
pub product_fits : (sum weight value : ℤ) → unsigned_abs sum + unsigned_abs weight * unsigned_abs value ≤ 2 ^ 13 → SFits w16 (weight *ℤ value)
product_fits sum weight value l = fits_signed_from_abs w16 (weight *ℤ value) (omega (arith, l, unsigned_abs-mul weight value))

pub product_is : (sum weight value : ℤ) → unsigned_abs sum + unsigned_abs weight * unsigned_abs value ≤ 2 ^ 13 → to_z w16 (of_z w16 (weight *ℤ value)) ≡ weight *ℤ value
product_is sum weight value l = to_z-of_z w16 (weight *ℤ value) (product_fits sum weight value l)

pub added_fits : (sum weight value : ℤ) → unsigned_abs sum + unsigned_abs weight * unsigned_abs value ≤ 2 ^ 13 → SFits w16 (sum +ℤ weight *ℤ value)
added_fits sum weight value l = fits_signed_from_abs w16 (sum +ℤ weight *ℤ value) (omega (arith, ints, l, unsigned_abs-mul weight value))
