-- The best so far of the candidates that keep inside.
use Rattle.std.specs.Prelude.{◌≡◌, ◌≤◌, ◌^◌, ℕ, List, [], length, Option, Some, None}
use Rattle.dirac_common.specs.declared.formats.Vector.{Vector}
use Rattle.dirac_vectors.specs.Predictions.{IsShortVector}
use Rattle.dirac_inside.specs.Ranges.{IsBounded, is_in}
use Rattle.dirac_inside.specs.declared.range.VectorRange.{VectorRange}
use Rattle.dirac_decide.specs.Deciding.{Deciding, View}
use Rattle.dirac_decide.specs.Units.{first_or_none, unit_keeps, vector_cost}
use Rattle.dirac_decide.specs.declared.best.Best.{Best}
use Rattle.dirac_decide.specs.declared.prediction_unit.PredictionUnit.{PredictionUnit}

-- the range has just the vectors that keep inside from all blocks of a unit
abbrev pub HasTheUnitsInside : Deciding → PredictionUnit → VectorRange → Type 0
HasTheUnitsInside d u range = (v : Vector) → IsBounded v → is_in range v ≡ unit_keeps d u v

-- a vector with what it costs
pub record IsCosted (d : Deciding) (r : View) (u : PredictionUnit) (b : Best) : Type 0 where
  pub cost : b.cost ≡ vector_cost d r u b.vector
  pub of_16_bits : IsShortVector b.vector
  pub at_most : b.cost ≤ 2 ^ 29

-- the first of least cost of some vectors
pub record IsBestAmong (d : Deciding) (r : View) (u : PredictionUnit) (vs : List Vector) (b : Best) : Type 0 where
  pub some : 1 ≤ length vs
  pub vector : b.vector ≡ first_or_none (vector_cost d r u) vs
  pub costed : IsCosted d r u b

-- the first of least cost of some vectors with its cost; nothing where there are no vectors
abbrev pub IsBestWhereSome : Deciding → View → PredictionUnit → List Vector → Option Best → Type 0
IsBestWhereSome d r u vs None = vs ≡ []
IsBestWhereSome d r u vs (Some b) = IsBestAmong d r u vs b
