-- Sums that are shifted down, as the code has them.
use Rattle.std.proofs.Common.{◌≡◌, ℕ, ℤ, pos, negsuc, ◌/◌, ◌≤◌, ◌+ℤ◌, to_z, of_z, arith}
use Rattle.std.proofs.lemmas.Int.{to_z-of_z}
use Rattle.std.proofs.Math.Nat.{div-le_self}
use lib.Signed.{shr_z}
use mir.Syntax.{Width}
use mir.Val.{SFits}

-- a number shifted down fits where the number does
shr_fits : (w : Width) (z : ℤ) (m : ℕ) → SFits w z → SFits w (shr_z z m)
shr_fits w (pos n) m f = record { sfits = let small : n / m ≤ n = div-le_self n m in omega (arith, f.sfits, small) }
shr_fits w (negsuc n) m f = record { sfits = let small : n / m ≤ n = div-le_self n m in omega (arith, f.sfits, small) }

-- a sum shifted down, through the bits
pub shr_sum_is : (w : Width) (x h : ℤ) (m : ℕ) → SFits w x → SFits w h → SFits w (x +ℤ h) → to_z w (of_z w (shr_z (to_z w (of_z w (to_z w (of_z w x) +ℤ to_z w (of_z w h)))) m)) ≡ shr_z (x +ℤ h) m
shr_sum_is w x h m fx fh fs =
    rw (to_z-of_z w x fx) (rw (to_z-of_z w h fh) (rw (to_z-of_z w (x +ℤ h) fs) (to_z-of_z w (shr_z (x +ℤ h) m) (shr_fits w (x +ℤ h) m fs))))
