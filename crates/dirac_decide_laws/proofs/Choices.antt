-- Vectors, modes and splits that are taken are the first of least cost.
use Rattle.std.proofs.Common.{◌≡◌, ℕ, zero, suc, ◌-◌, ◌*◌, ◌<◌, ◌≤◌, List, [], ◌∷◌, length, get_or, map, ◌==◌, arith, refl, ap, inl, inr, subst, ◌∙◌}
use Rattle.std.specs.List.{filter, range_with_len}
use Rattle.std.proofs.lemmas.Bool.{cases_Bool}
use Rattle.std.proofs.lemmas.List.{length-map}
use Rattle.dirac_common.specs.declared.formats.Vector.{Vector}
use Rattle.dirac_search.specs.Candidates.{no_motion}
use Rattle.dirac_search_laws.specs.Least.{IsFirstOfLeastCost}
use Rattle.dirac_search_laws.proofs.Least.{first_of_least}
use Rattle.dirac_decide.specs.Modes.{choice_of, first_mode, other_modes}
use Rattle.dirac_decide.specs.Splits.{best_split, split_cost}
use Rattle.dirac_decide.specs.Units.{best_place, best_vector, candidate, candidate_cost, first_or_none, unit_keeps, vector_cost}
use Rattle.dirac_decide.specs.Deciding.{Deciding, View}
use Rattle.dirac_decide.specs.declared.prediction_unit.PredictionUnit.{PredictionUnit}
use Rattle.dirac_decide_laws.specs.Choices.{ModesAreLeast, SplitsAreLeast, UnitVectorsAreLeast, cost_of_mode, or_no_motion, vectors_of}

pub modes_least : ModesAreLeast
unfolding choice_of
modes_least d u = first_of_least cost_of_mode (first_mode d u) (other_modes d u d.second)

pub splits_least : SplitsAreLeast
unfolding best_split
splits_least d sx sy = first_of_least (split_cost d sx sy) 0 (1 ∷ 2 ∷ [])

named : {A : Type 0} (f : ℕ → A) (list : List ℕ) (k one : ℕ) → get_or (map f list) k (f one) ≡ f (get_or list k one)
named f [] k one = refl
named f (n ∷ list) zero one = refl
named f (n ∷ list) (suc k) one = named f list k one

-- what is the first of least cost, named by numbers, is the first of least cost of what these numbers name
mapped : {A : Type 0} (f : ℕ → A) (cost : A → ℕ) (list : List ℕ) (one : ℕ) → IsFirstOfLeastCost (λ k. cost (f k)) list one → IsFirstOfLeastCost cost (map f list) (f one)
mapped f cost list one is = record {
  place = is.place;
  inside = let i = is.inside in let same = length-map list f in omega (arith, i, same);
  there = named f list is.place one ∙ ap f is.there;
  least = λ k l. let inside : k < length list = omega (arith, length-map list f) in let less = is.least k inside in omega (arith, less, ap cost (named f list k one));
  first = λ k l. let less = is.first k l in omega (arith, less, ap cost (named f list k one));
}

numbers : (n : ℕ) → 1 ≤ n → 0 ∷ range_with_len 1 (n - 1) ≡ range_with_len 0 n
numbers zero some = absurd (omega arith)
numbers (suc n) some = ap (λ k. 0 ∷ range_with_len 1 k) back where
  back : suc n - 1 ≡ n
  back = omega arith

-- of all vectors
all_least : (d : Deciding) (r : View) (u : PredictionUnit) → 1 ≤ u.size → IsFirstOfLeastCost (vector_cost d r u) (vectors_of r u) (candidate r u (best_place d r u))
all_least d r u some =
    mapped (candidate r u) (vector_cost d r u) (range_with_len 0 (u.size * u.size)) (best_place d r u)
    (subst (λ (list : List ℕ). IsFirstOfLeastCost (candidate_cost d r u) list (best_place d r u)) (numbers (u.size * u.size) (squared u.size some))
    (first_of_least (candidate_cost d r u) 0 (range_with_len 1 (u.size * u.size - 1))))
  where
    squared : (n : ℕ) → 1 ≤ n → 1 ≤ n * n
    squared zero l = absurd (omega arith)
    squared (suc n) l = omega arith

-- of some vectors, or of that of no motion
some_least : (cost : Vector → ℕ) (vs : List Vector) → IsFirstOfLeastCost cost (or_no_motion vs) (first_or_none cost vs)
some_least cost [] = first_of_least cost no_motion []
some_least cost (v ∷ vs) = first_of_least cost v vs

pub vectors_least : UnitVectorsAreLeast
unfolding best_vector
vectors_least d r u some = elim (cases_Bool (d.alike == 0)) [
  | inl every ↦ rw every (all_least d r u some)
  | inr asked ↦ rw asked (some_least (vector_cost d r u) (filter (unit_keeps d u) (vectors_of r u)))
]
