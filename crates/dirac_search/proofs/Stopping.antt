-- Sums of rows that stop at a limit.
use Rattle.std.proofs.Common.{◌≡◌, ℕ, ◌+◌, ◌*◌, ◌^◌, ◌<◌, ◌≤◌, Option, None, arith, ap, subst, ◌∙◌}
use Rattle.std.proofs.lemmas.Nat.{mul-le}
use Rattle.dirac_costs.specs.Sums.{sum_below}
use Rattle.dirac_costs.proofs.Sums.{sum_grows, sum_more}
use Rattle.dirac_search.specs.Costs.{StopsAt}

-- what was there first and k numbers of at most `each` are summed
pub record SumsTo (f : ℕ → ℕ) (first each k sum : ℕ) : Type 0 where
  pub value : sum ≡ first + sum_below f k
  pub small : sum ≤ 66300 + each * k

pub sums_begun : (f : ℕ → ℕ) (first each : ℕ) → first ≤ 66300 → SumsTo f first each 0 first
sums_begun f first each l = record { value = omega arith; small = omega (arith, l) }

-- one more
pub sums_more : (f : ℕ → ℕ) (first each k sum row : ℕ) → SumsTo f first each k sum → row ≡ f k → row ≤ each → SumsTo f first each (k + 1) (sum + row)
sums_more f first each k sum row s e l = record { value = omega (arith, s.value, e, sum_more f k); small = omega (arith, s.small, l) }

-- and four more
pub sums_four_more : (f : ℕ → ℕ) (first each k sum rows : ℕ) → SumsTo f first each (4 * k) sum → sum_below f (4 * k) + rows ≡ sum_below f (4 * (k + 1)) → rows ≤ 4 * each → SumsTo f first each (4 * (k + 1)) (sum + rows)
sums_four_more f first each k sum rows s e l = record { value = omega (arith, s.value, e); small = omega (arith, s.small, l) }

-- it reaches the limit before the end
pub stopped : (f : ℕ → ℕ) (first each limit k n sum : ℕ) → SumsTo f first each k sum → limit ≤ sum → k ≤ n → n ≤ 16 → each ≤ 1048560 → StopsAt limit (first + sum_below f n) None
stopped f first each limit k n sum s reached inside few small = record {
  below = tt;
  above = (omega (arith, s.value, reached, sum_grows f k n inside), omega (arith, reached, bound s.small));
} where
  bound : sum ≤ 66300 + each * k → sum < 2 ^ 25
  bound l = omega (arith, l, mul-le each k 1048560 16 small (omega (arith, inside, few)))

-- all are summed
pub ended : (f : ℕ → ℕ) (first each limit k n sum : ℕ) (answer : Option ℕ) → SumsTo f first each k sum → k ≡ n → StopsAt limit sum answer → StopsAt limit (first + sum_below f n) answer
ended f first each limit k n sum answer s all told = subst (λ (c : ℕ). StopsAt limit c answer) (s.value ∙ ap (λ i. first + sum_below f i) all) told

-- what was there first reaches it
pub dear : (limit first more cost : ℕ) → first + more ≡ cost → limit ≤ first → first ≤ 66300 → StopsAt limit cost None
dear limit first more cost e reached few = record { below = tt; above = (omega (arith, e, reached), omega (arith, reached, few)) }
