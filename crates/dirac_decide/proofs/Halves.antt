-- Half of a sum of two samples and one.
use Rattle.std.proofs.Common.{◌≡◌, ℤ, pos, negsuc, to_z, of_z, arith}
use Rattle.std.specs.Prelude.{◌≤ℤ◌}
use Rattle.std.specs.Int.{w16}
use Rattle.std.proofs.lemmas.Int.{ints}
use lib.Signed.{shr_z}
use Rattle.dirac_upconvert.specs.HalfSamples.{IsSample}

pub half_sample : (z : ℤ) → negsuc 254 ≤ℤ z → z ≤ℤ pos 255 → IsSample (shr_z z 2)
half_sample (pos n) low high = record { least = omega (arith, ints); most = omega (arith, ints) }
half_sample (negsuc n) low high = record { least = omega (arith, ints); most = omega (arith, ints) }

pub half_passed : (z : ℤ) → negsuc 254 ≤ℤ z → z ≤ℤ pos 255 → to_z w16 (of_z w16 (shr_z (to_z w16 (of_z w16 z)) 2)) ≡ shr_z z 2
half_passed z low high =
    let same : to_z w16 (of_z w16 z) ≡ z = omega (arith, ints) in
    let half : IsSample (shr_z z 2) = half_sample z low high in
    rw same (passed (shr_z z 2) half)
  where
    passed : (r : ℤ) → IsSample r → to_z w16 (of_z w16 r) ≡ r
    passed r h = omega (arith, ints, h.least, h.most)
