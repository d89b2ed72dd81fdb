-- Of 13, 25, 12 and 22, each at the cost of its last digit, the first of least cost is 12.
use Rattle.std.proofs.Common.{◌≡◌, ℕ, zero, suc, ◌%◌, ◌<◌, ◌≤◌, List, [], ◌∷◌, slice_index_or, refl, arith}
use Rattle.dirac_costs.specs.Least.{first_least}
use Rattle.dirac_search_laws.specs.Least.{IsFirstOfLeastCost}

abbrev last_digit : ℕ → ℕ
last_digit n = n % 10

abbrev numbers : List ℕ
numbers = 13 ∷ 25 ∷ 12 ∷ 22 ∷ []

twelve : first_least last_digit 13 (25 ∷ 12 ∷ 22 ∷ []) ≡ 12
twelve = refl

-- it costs no more than any, and less than the two before it
twelve_is_first : IsFirstOfLeastCost last_digit numbers 12
twelve_is_first = record { place = 2; inside = omega arith; there = refl; least = each; first = before } where
  each : (k : ℕ) → k < 4 → 2 ≤ last_digit (slice_index_or numbers k 12)
  each zero l = omega arith
  each (suc zero) l = omega arith
  each (suc (suc zero)) l = omega arith
  each (suc (suc (suc k))) l = let last : k ≡ 0 = omega arith in rw last (omega arith)

  before : (k : ℕ) → k < 2 → 2 < last_digit (slice_index_or numbers k 12)
  before zero l = omega arith
  before (suc zero) l = omega arith
  before (suc (suc k)) l = absurd (omega arith)

-- 22 costs as much, but stands behind it
twenty_two_is_not : IsFirstOfLeastCost last_digit numbers 22 → ⊥
twenty_two_is_not is = at is.place is.inside is.there is.first where
  at : (k : ℕ) → k < 4 → slice_index_or numbers k 22 ≡ 22 → ((j : ℕ) → j < k → 2 < last_digit (slice_index_or numbers j 22)) → ⊥
  at zero l there first = omega (arith, there)
  at (suc zero) l there first = omega (arith, there)
  at (suc (suc zero)) l there first = omega (arith, there)
  at (suc (suc (suc k))) l there first = let two = first 2 (omega arith) in omega (arith, two)
