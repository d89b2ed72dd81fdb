-- Bands are no longer than a count can be.
use Rattle.std.proofs.Common.{◌≡◌, ℕ, ◌+◌, ◌-◌, ◌*◌, ◌/◌, ◌%◌, ◌<◌, ◌≤◌, ◌^◌, arith, pow_mono, ◌∙◌}
use Rattle.std.proofs.Math.Nat.{div-mul-le_self, div-le_of_le-mul}
use Rattle.std.proofs.lemmas.Nat.{shl_whole}

pub band_small : (depth length below : ℕ) → length < 2 ^ 32 → depth ≤ 5 → 1 ≤ below
    → (length + 2 ^ depth - 1) / 2 ^ depth * 2 ^ depth / 2 ^ below < 2 ^ 32
band_small depth length below fits few some =
    let padded = div-mul-le_self (length + 2 ^ depth - 1) (2 ^ depth) in
    let unit : 2 ^ depth ≤ 2 ^ 5 = pow_mono few in
    let twice : 2 ^ 1 ≤ 2 ^ below = pow_mono some in
    let most : (length + 2 ^ depth - 1) / 2 ^ depth * 2 ^ depth ≤ 2 ^ below * 4294967295 = omega arith in
    let half = div-le_of_le-mul (2 ^ below) most in
    omega arith

-- a one that is shifted
pub shifted_one : (depth : ℕ) → depth ≤ 5 → 1 * 2 ^ depth % 2 ^ 64 ≡ 2 ^ depth
shifted_one depth few = shl_whole 1 1 depth 64 (omega arith) (omega arith) ∙ omega arith
