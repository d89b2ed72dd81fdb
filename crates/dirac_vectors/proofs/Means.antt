-- Means and medians of values of 16 bits have 16 bits.
use Rattle.std.proofs.Common.{◌≡◌, ℤ, pos, negsuc, ◌+ℤ◌, arith, to_z, of_z}
use Rattle.std.proofs.lemmas.Int.{ints, clamps}
use Rattle.std.specs.Int.{int_div_euclid, w32}
use Rattle.std.specs.Prelude.{◌≤ℤ◌}
use Rattle.dirac_common.specs.Samples.{mean_of_three}
use Rattle.dirac_vectors.specs.Neighbours.{IsShort, mean_of_two, median}

-- half of a sum of two such values and one
pub half_short : (z : ℤ) → negsuc 65534 ≤ℤ z → z ≤ℤ pos 65535 → IsShort (int_div_euclid z (pos 2))
half_short (pos n) low high = record { least = omega (arith, ints); most = omega (arith, ints) }
half_short (negsuc n) low high = record { least = omega (arith, ints); most = omega (arith, ints) }

-- a third of a sum of three such values and one
pub third_short : (z : ℤ) → negsuc 98302 ≤ℤ z → z ≤ℤ pos 98302 → IsShort (int_div_euclid z (pos 3))
third_short (pos n) low high = record { least = omega (arith, ints); most = omega (arith, ints) }
third_short (negsuc n) low high = record { least = omega (arith, ints); most = omega (arith, ints) }

pub mean_of_two_short : (a b : ℤ) → IsShort a → IsShort b → IsShort (mean_of_two a b)
mean_of_two_short a b p q = half_short ((a +ℤ b) +ℤ pos 1) (omega (arith, ints)) (omega (arith, ints))

pub mean_of_three_short : (a b c : ℤ) → IsShort a → IsShort b → IsShort c → IsShort (mean_of_three a b c)
mean_of_three_short a b c p q r = third_short (((a +ℤ b) +ℤ c) +ℤ pos 1) (omega (arith, ints)) (omega (arith, ints))

pub median_short : (a b c : ℤ) → IsShort a → IsShort b → IsShort c → IsShort (median a b c)
median_short a b c p q r = record { least = omega (arith, ints, clamps); most = omega (arith, ints, clamps) }

-- a value of 16 bits passes 32 bits as it is
pub passed : (z : ℤ) → IsShort z → to_z w32 (of_z w32 z) ≡ z
passed z h = omega (arith, ints)
