-- Division by a reciprocal, which is exact as long as a number times its divisor stays below the power of two.
use Rattle.std.proofs.Common.{◌≡◌, ℕ, ◌+◌, ◌-◌, ◌*◌, ◌/◌, ◌%◌, ◌<◌, ◌≤◌, inl, inr, arith}
use Rattle.std.proofs.Math.Nat.{div-lt_iff_lt-mul, le-div_iff_mul-le}
use Rattle.std.proofs.lemmas.Bool.{cases_lt}
use Rattle.std.proofs.lemmas.Nat.{mul-le, div-add-mod', mod_below}

-- the reciprocal is at least the power over the divisor
reciprocal_least : (p d m : ℕ) → 0 < d → 0 < p → m ≡ (p - 1) / d + 1 → p ≤ m * d
reciprocal_least p d m some one e =
    let whole : (p - 1) / d * d + (p - 1) % d ≡ p - 1 = div-add-mod' (p - 1) d in
    rw e (omega (arith, whole, mod_below (p - 1) d some, one))

-- and by less than one above it
reciprocal_most : (p d m : ℕ) → 0 < p → m ≡ (p - 1) / d + 1 → m * d + 1 ≤ p + d
reciprocal_most p d m one e =
    let whole : (p - 1) / d * d + (p - 1) % d ≡ p - 1 = div-add-mod' (p - 1) d in
    rw e (omega (arith, whole, one))

product_least : (p n d m : ℕ) → p ≤ m * d → n / d * p ≤ n * m
product_least p n d m least =
    let q = n / d in
    let parts : q * d + n % d ≡ n = div-add-mod' n d in
    let one : q * p ≤ q * (m * d) = mul-le q p q (m * d) (omega arith) least in
    let two : (q * d) * m ≤ n * m = mul-le (q * d) m n m (omega (arith, parts)) (omega arith) in
    omega (arith, one, two)

product_most : (p n d m : ℕ) → 0 < d → n * d < p → m * d + 1 ≤ p + d → n * m < (n / d + 1) * p
product_most p n d m some room most =
    let q = n / d in
    let parts : q * d + n % d ≡ n = div-add-mod' n d in
    let three : n * (m * d + 1) ≤ n * (p + d) = mul-le n (m * d + 1) n (p + d) (omega arith) most in
    let four : (n + 1) * p ≤ (q * d + d) * p = mul-le (n + 1) p (q * d + d) p (omega (arith, parts, mod_below n d some)) (omega arith) in
    let five : n * m * d < (q + 1) * p * d = omega (arith, three, four, room) in
    elim (cases_lt (n * m) ((q + 1) * p)) [
      | inl less ↦ less
      | inr more ↦ absurd (omega (arith, five, mul-le ((q + 1) * p) d (n * m) d more (omega arith)))
    ]

-- a number times the reciprocal, over the power, is the number over the divisor
pub quotient_is : (p n d m : ℕ) → 0 < d → 0 < p → m ≡ (p - 1) / d + 1 → n * d < p → n * m / p ≡ n / d
quotient_is p n d m some one e room =
    let lower : n / d ≤ n * m / p = (le-div_iff_mul-le one).1 (product_least p n d m (reciprocal_least p d m some one e)) in
    let upper : n * m / p < n / d + 1 = (div-lt_iff_lt-mul one).1 (product_most p n d m some room (reciprocal_most p d m one e)) in
    omega (arith, lower, upper)
