-- The first of least cost of a list.
use Rattle.std.proofs.Common.{◌≡◌, ℕ, zero, suc, ◌<◌, ◌≤◌, List, [], ◌∷◌, length, slice_index_or, arith, refl, inl, inr, ◌∙◌}
use Rattle.std.proofs.lemmas.Bool.{cases_lt, lt-ltb, le-ltb}
use Rattle.dirac_costs.specs.Least.{first_least}
use Rattle.dirac_search_laws.specs.Least.{IsFirstOfLeastCost}

alone : {A : Type 0} (cost : A → ℕ) (v : A) → IsFirstOfLeastCost cost (v ∷ []) v
alone cost v = record { place = 0; inside = omega arith; there = refl; least = each; first = λ k l. absurd (omega arith) } where
  each : (k : ℕ) → k < 1 → cost v ≤ cost (slice_index_or (v ∷ []) k v)
  each zero l = omega arith
  each (suc k) l = absurd (omega arith)

-- the second costs less: what is least of it and those behind it is least of all
taken : {A : Type 0} (cost : A → ℕ) (v w : A) (ws : List A) (r : A) → cost w < cost v → IsFirstOfLeastCost cost (w ∷ ws) r → IsFirstOfLeastCost cost (v ∷ (w ∷ ws)) r
taken {A} cost v w ws r less is = record { place = suc is.place; inside = let i = is.inside in omega arith; there = is.there; least = each; first = before } where
  each : (k : ℕ) → k < length (v ∷ (w ∷ ws)) → cost r ≤ cost (slice_index_or (v ∷ (w ∷ ws)) k r)
  each zero l = let one = is.least 0 (omega arith) in omega (arith, one, less)
  each (suc k) l = is.least k (omega arith)

  before : (k : ℕ) → k < suc is.place → cost r < cost (slice_index_or (v ∷ (w ∷ ws)) k r)
  before zero l = let one = is.least 0 (omega arith) in omega (arith, one, less)
  before (suc k) l = is.first k (omega arith)

-- the place among all, of a place where the second is left out
abbrev shifted : ℕ → ℕ
shifted zero = 0
shifted (suc p) = suc (suc p)

shifted_less : (p n : ℕ) → p < suc n → shifted p < suc (suc n)
shifted_less zero n l = omega arith
shifted_less (suc p) n l = omega arith

shifted_at : {A : Type 0} (v w : A) (ws : List A) (d : A) (p : ℕ) → slice_index_or (v ∷ (w ∷ ws)) (shifted p) d ≡ slice_index_or (v ∷ ws) p d
shifted_at v w ws d zero = refl
shifted_at v w ws d (suc p) = refl

-- the second doesn't cost less: what is least of the others is least of all
kept : {A : Type 0} (cost : A → ℕ) (v w : A) (ws : List A) (r : A) → cost v ≤ cost w → IsFirstOfLeastCost cost (v ∷ ws) r → IsFirstOfLeastCost cost (v ∷ (w ∷ ws)) r
kept {A} cost v w ws r more is = record {
  place = shifted is.place;
  inside = shifted_less is.place (length ws) is.inside;
  there = shifted_at v w ws r is.place ∙ is.there;
  least = each;
  first = before is.place is.first;
} where
  each : (k : ℕ) → k < length (v ∷ (w ∷ ws)) → cost r ≤ cost (slice_index_or (v ∷ (w ∷ ws)) k r)
  each zero l = is.least 0 (omega arith)
  each (suc zero) l = let one = is.least 0 (omega arith) in omega (arith, one, more)
  each (suc (suc k)) l = is.least (suc k) (omega arith)

  before : (p : ℕ) → ((k : ℕ) → k < p → cost r < cost (slice_index_or (v ∷ ws) k r)) → (k : ℕ) → k < shifted p → cost r < cost (slice_index_or (v ∷ (w ∷ ws)) k r)
  before zero first k l = absurd (omega arith)
  before (suc p) first zero l = first 0 (omega arith)
  before (suc p) first (suc zero) l = let one = first 0 (omega arith) in omega (arith, one, more)
  before (suc p) first (suc (suc k)) l = first (suc k) (omega arith)

pub first_of_least : {A : Type 0} (cost : A → ℕ) (v : A) (ws : List A) → IsFirstOfLeastCost cost (v ∷ ws) (first_least cost v ws)
first_of_least cost v [] = alone cost v
first_of_least cost v (w ∷ ws) = elim (cases_lt (cost w) (cost v)) [
  | inl less ↦ rw (lt-ltb (cost w) (cost v) less) (taken cost v w ws (first_least cost w ws) less (first_of_least cost w ws))
  | inr more ↦ rw (le-ltb (cost w) (cost v) more) (kept cost v w ws (first_least cost v ws) more (first_of_least cost v ws))
]
