-- Signed sums that are shifted down, as the code has them.
use Rattle.std.proofs.Common.{◌≡◌, ℕ, ℤ, pos, negsuc, suc, ◌+◌, ◌*◌, ◌/◌, ◌%◌, ◌^◌, ◌<◌, ◌≤◌, ◌+ℤ◌, ◌*ℤ◌, unsigned_abs, to_z, of_z, arith, refl, ap, ◌∙◌}
use Rattle.std.specs.Int.{w128}
use Rattle.std.proofs.lemmas.Int.{ints, to_z_pos, to_z-of_z, fits_signed_from_abs, unsigned_abs-mul}
use Rattle.std.proofs.lemmas.Nat.{one_shl, pow_pos, le-div, div-add-mod'}
use Rattle.std.proofs.Math.Nat.{suc-mul}
use Rattle.std.proofs.Math.Pow.{pow_mono}
use lib.Signed.{shr_z}
use mir.Syntax.{Width}
use mir.Val.{hbits, SFits}
use Rattle.dirac_common.proofs.Shifts.{shr_sum_is}
use Rattle.dirac_lift.specs.Lifting.{rounded}

-- half a power of two, as the code shifts it
pub half_is : (w : Width) (m n : ℕ) → 1 * 2 ^ m % n ≡ 2 ^ m → 2 ^ m < 2 ^ hbits w → shr_z (to_z w (1 * 2 ^ m % n)) 2 ≡ pos (2 ^ m / 2)
half_is w m n e l = ap (λ k. shr_z (to_z w k) 2) e ∙ ap (λ z. shr_z z 2) (to_z_pos w (2 ^ m) l)

-- the code's rounded sum
pub rounded_is : (x : ℤ) (m : ℕ) → m ≤ 32 → unsigned_abs x ≤ 2 ^ 126 → to_z w128 (of_z w128 (shr_z (to_z w128 (of_z w128 (to_z w128 (of_z w128 x) +ℤ to_z w128 (of_z w128 (shr_z (to_z w128 (1 * 2 ^ m % 2 ^ 128)) 2))))) (2 ^ m))) ≡ rounded m x
rounded_is x m l h =
    let power : 2 ^ m ≤ 2 ^ 32 = pow_mono {i = m} {j = 32} l in
    let half : shr_z (to_z w128 (1 * 2 ^ m % 2 ^ 128)) 2 ≡ pos (2 ^ m / 2) =
    half_is w128 m (2 ^ 128) (one_shl m 128 (omega arith)) (omega arith) in
    ap (λ z. to_z w128 (of_z w128 (shr_z (to_z w128 (of_z w128 (to_z w128 (of_z w128 x) +ℤ to_z w128 (of_z w128 z)))) (2 ^ m)))) half
    ∙ shr_sum_is w128 x (pos (2 ^ m / 2)) (2 ^ m) (fits_signed_from_abs w128 x (omega arith)) (fits_signed_from_abs w128 (pos (2 ^ m / 2)) (omega arith))
    (fits_signed_from_abs w128 (x +ℤ pos (2 ^ m / 2)) (omega (arith, ints)))

-- how large a shifted number is, by the number before h was added, which is half of m
abs-shr : (x z : ℤ) (m h : ℕ) → z ≡ x +ℤ pos h → 0 < m → m ≤ 2 * h + 1 → unsigned_abs (shr_z z m) ≤ (unsigned_abs x + h) / m
abs-shr x (pos n) m h e some half =
    let small : n ≤ unsigned_abs x + h = omega (arith, ints, e) in
    le-div (n / m) (unsigned_abs x + h) m some (omega (arith, small, div-add-mod' n m))
abs-shr x (negsuc n) m h e some half =
    let small : n + 1 + h ≤ unsigned_abs x = omega (arith, ints, e) in
    le-div (suc (n / m)) (unsigned_abs x + h) m some (rw (suc-mul (n / m) m) (omega (arith, small, div-add-mod' n m)))

pub abs-rounded : (x : ℤ) (m : ℕ) → unsigned_abs (rounded m x) ≤ (unsigned_abs x + 2 ^ m / 2) / 2 ^ m
abs-rounded x m = abs-shr x (x +ℤ pos (2 ^ m / 2)) (2 ^ m) (2 ^ m / 2) refl (pow_pos m) (omega arith)

-- a product that is added, and the sum
pub product_fits : (sum tap value : ℤ) → unsigned_abs sum + unsigned_abs tap * unsigned_abs value ≤ 2 ^ 126 → SFits w128 (tap *ℤ value)
product_fits sum tap value l = fits_signed_from_abs w128 (tap *ℤ value) (omega (arith, l, unsigned_abs-mul tap value))

pub product_is : (sum tap value : ℤ) → unsigned_abs sum + unsigned_abs tap * unsigned_abs value ≤ 2 ^ 126 → to_z w128 (of_z w128 (tap *ℤ value)) ≡ tap *ℤ value
product_is sum tap value l = to_z-of_z w128 (tap *ℤ value) (product_fits sum tap value l)

pub added_fits : (sum tap value : ℤ) → unsigned_abs sum + unsigned_abs tap * unsigned_abs value ≤ 2 ^ 126 → SFits w128 (sum +ℤ tap *ℤ value)
added_fits sum tap value l = fits_signed_from_abs w128 (sum +ℤ tap *ℤ value) (omega (arith, ints, l, unsigned_abs-mul tap value))
