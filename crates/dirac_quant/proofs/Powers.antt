-- How large the power of two of a quantiser index is.
use Rattle.std.proofs.Common.{ℕ, ◌*◌, ◌/◌, ◌%◌, ◌^◌, ◌≤◌, arith}
use Rattle.std.proofs.Math.Pow.{pow_mono}
use Rattle.std.proofs.lemmas.Nat.{one_shl}

-- the power that the code shifts out
pub power_bound : (i : ℕ) → i ≤ 99 → 1 * 2 ^ (i / 4) % 2 ^ 64 ≤ 2 ^ 24
power_bound i h =
    let quarter : i / 4 ≤ 24 = omega arith in
    omega (arith, one_shl (i / 4) 64 (omega arith), pow_mono {i = i / 4} {j = 24} quarter)
