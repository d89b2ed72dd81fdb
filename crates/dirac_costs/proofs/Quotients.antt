-- Means of samples are samples.
use Rattle.std.proofs.Common.{ℕ, ℤ, pos, negsuc, ◌*◌, ◌/◌, ◌<◌, ◌≤◌, ◌+ℤ◌, ◌*ℤ◌, arith}
use Rattle.std.specs.Prelude.{◌≤ℤ◌, ◌<ℤ◌}
use Rattle.std.specs.Int.{int_div_euclid}
use Rattle.std.proofs.lemmas.Int.{ints}
use Rattle.std.proofs.lemmas.Nat.{div_below}
use Rattle.dirac_upconvert.specs.HalfSamples.{IsSample}
use Rattle.dirac_upconvert.specs.SubSamples.{IsWithin}

quotient : (z : ℤ) (m : ℕ) → 1 ≤ m → pos 0 ≤ℤ (z +ℤ pos (128 * m)) → z <ℤ pos (128 * m) → IsSample (int_div_euclid z (pos m))
quotient (pos n) m some low high =
    let small : n / m < 128 = div_below n m 128 some (omega (arith, ints)) in
    record { least = omega (arith, ints); most = omega (arith, ints) }
quotient (negsuc n) m some low high =
    let small : n / m < 128 = div_below n m 128 some (omega (arith, ints)) in
    record { least = omega (arith, ints); most = omega (arith, ints) }

pub mean_sample : (total : ℤ) (n : ℕ) → 1 ≤ n → IsWithin n total → IsSample (int_div_euclid (pos 2 *ℤ total +ℤ pos n) (pos (2 * n)))
mean_sample total n some within =
    quotient (pos 2 *ℤ total +ℤ pos n) (2 * n) (omega arith) (omega (arith, ints, within.least, within.most)) (omega (arith, ints, within.least, within.most))
