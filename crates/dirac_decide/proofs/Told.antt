-- Costs that are told where they are below a limit.
use Rattle.std.proofs.Common.{◌≡◌, ℕ, ◌+◌, ◌≤◌, arith, subst}
use Rattle.dirac_costs.specs.Least.{IsToldBelow}
use Rattle.dirac_costs.specs.Sums.{sum_below}
use Rattle.dirac_costs.proofs.Sums.{sum_grows}

-- a sum that isn't below the limit any more
pub told_early : (limit bits cost : ℕ) (f : ℕ → ℕ) (k n : ℕ) → cost ≡ bits + sum_below f k → k ≤ n → limit ≤ cost → IsToldBelow limit (bits + sum_below f n) cost
told_early limit bits cost f k n so within past = record {
  below = λ l. absurd (omega arith);
  above = λ l. omega (arith, sum_grows f k n within);
}

-- the whole sum
pub told_whole : (limit cost told : ℕ) → told ≡ cost → IsToldBelow limit cost told
told_whole limit cost told e = record { below = λ l. e; above = λ l. omega (arith, e) }

-- the same cost in other words
pub told_as : (limit a b told : ℕ) → IsToldBelow limit a told → a ≡ b → IsToldBelow limit b told
told_as limit a b told t e = subst (λ (n : ℕ). IsToldBelow limit n told) e t

-- a sum without bits that isn't below the limit any more
pub sum_early : (limit cost : ℕ) (f : ℕ → ℕ) (k n : ℕ) → cost ≡ sum_below f k → k ≤ n → limit ≤ cost → IsToldBelow limit (sum_below f n) cost
sum_early limit cost f k n so within past = record {
  below = λ l. absurd (omega arith);
  above = λ l. omega (arith, sum_grows f k n within);
}
