-- A number over a factor has no more bits than the number.
use Rattle.std.proofs.Common.{ℕ, ℤ, pos, negsuc, zero, suc, ◌+◌, ◌*◌, ◌/◌, ◌<◌, ◌≤◌, unsigned_abs, FitsSigned, arith}
use Rattle.std.specs.Int.{w32}
use Rattle.std.proofs.Math.Nat.{div-lt_iff_lt-mul}
use Rattle.std.proofs.lemmas.Nat.{mul-le}
use Rattle.dirac_quant.specs.Quantiser.{with_sign_of}

quarter : (m f : ℕ) → 4 ≤ f → 4 * m / f ≤ m
quarter m f least =
    let some : 0 < f = omega (arith, least) in
    let up : (m + 1) * 4 ≤ (m + 1) * f = mul-le (m + 1) 4 (m + 1) f (omega arith) least in
    let below : 4 * m / f < m + 1 = (div-lt_iff_lt-mul some).1 (omega (arith, up)) in
    omega (arith, below)

sign_fits : (v : ℤ) (q : ℕ) → q ≤ unsigned_abs v → FitsSigned w32 v → FitsSigned w32 (with_sign_of v q)
sign_fits (pos n) q l fits = record { sfits = omega (arith, l, fits.sfits) }
sign_fits (negsuc n) zero l fits = record { sfits = omega (arith, fits.sfits) }
sign_fits (negsuc n) (suc q) l fits = record { sfits = omega (arith, l, fits.sfits) }

pub reduced_fits : (v : ℤ) (f : ℕ) → 4 ≤ f → FitsSigned w32 v → FitsSigned w32 (with_sign_of v (4 * unsigned_abs v / f))
reduced_fits v f least fits = sign_fits v (4 * unsigned_abs v / f) (quarter (unsigned_abs v) f least) fits
