-- How large padded sizes and the sizes of subbands are.
use Rattle.std.proofs.Common.{◌≡◌, ℕ, ◌+◌, ◌-◌, ◌*◌, ◌/◌, ◌%◌, ◌^◌, ◌≤◌, ◌<◌, arith}
use Rattle.std.proofs.Math.Pow.{pow_mono}
use Rattle.std.proofs.lemmas.Nat.{le-div, one_shl, pow-add, pow_pos, div-add-mod', mul-le, div_below}

-- a quotient rises with its dividend
pub div_mono : (a b m : ℕ) → 0 < m → a ≤ b → a / m ≤ b / m
div_mono a b m some l = le-div (a / m) b m some (omega (arith, l, div-add-mod' a m))

-- a quotient by two or more is at most a half
pub quotient_half : (n m : ℕ) → 2 ≤ m → 2 * (n / m) ≤ n
quotient_half n m h = omega (arith, div-add-mod' n m, mul-le (n / m) 2 (n / m) m (omega arith) h)

-- the LL band of a plane of at most 8,192
pub lowest_band_bound : (n depth : ℕ) → n ≤ 8192 → 1 ≤ depth → n / 2 ^ depth ≤ 4096
lowest_band_bound n depth h one =
    omega (arith, quotient_half n (2 ^ depth) (pow_mono {i = 1} {j = depth} one))

-- a multiple of m that k times m limits before it is rounded up
pub rounded_up_bound : (n m k : ℕ) → 0 < m → n ≤ k * m → (n + m - 1) / m * m ≤ k * m
rounded_up_bound n m k h l =
    let quotient : (n + m - 1) / m < k + 1 = div_below (n + m - 1) m (k + 1) h (omega arith) in
    mul-le ((n + m - 1) / m) m k m (omega arith) (omega arith)

-- padding up to a power of two stays within 8,192, which is one
pub padded_bound : (n depth : ℕ) → n ≤ 8192 → depth ≤ 5 → (n + 1 * 2 ^ depth % 2 ^ 32 - 1) / (1 * 2 ^ depth % 2 ^ 32) * (1 * 2 ^ depth % 2 ^ 32) ≤ 8192
padded_bound n depth h five =
    let step : 1 * 2 ^ depth % 2 ^ 32 ≡ 2 ^ depth = one_shl depth 32 (omega arith) in
    let split : (13 - depth) + depth ≡ 13 = omega arith in
    let whole : 2 ^ ((13 - depth) + depth) ≡ 2 ^ (13 - depth) * 2 ^ depth = pow-add 2 (13 - depth) depth in
    let all : 2 ^ 13 ≡ 2 ^ (13 - depth) * 2 ^ depth = rw split at whole in
    rw step (omega (arith, rounded_up_bound n (2 ^ depth) (2 ^ (13 - depth)) (pow_pos depth) (omega (arith, all)), all))
