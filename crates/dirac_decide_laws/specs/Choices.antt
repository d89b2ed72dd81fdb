-- Vectors, modes and splits that are taken, in words.
use Rattle.std.specs.Prelude.{ℕ, ◌*◌, ◌≤◌, ◌==◌, if◌then◌else◌, List, [], ◌∷◌, map}
use Rattle.std.specs.List.{filter, range_with_len}
use Rattle.dirac_common.specs.declared.formats.Vector.{Vector}
use Rattle.dirac_search_laws.specs.Least.{IsFirstOfLeastCost}
use Rattle.dirac_search.specs.Candidates.{no_motion}
use Rattle.dirac_decide.specs.Deciding.{Deciding, View}
use Rattle.dirac_decide.specs.Modes.{choice_of, first_mode, other_modes}
use Rattle.dirac_decide.specs.Splits.{best_split, split_cost}
use Rattle.dirac_decide.specs.Units.{best_vector, candidate, unit_keeps, vector_cost}
use Rattle.dirac_decide.specs.declared.choice.Choice.{Choice}
use Rattle.dirac_decide.specs.declared.prediction_unit.PredictionUnit.{PredictionUnit}

-- the vectors that are tried for a unit in a reference: those of its blocks, by rows
abbrev pub vectors_of : View → PredictionUnit → List Vector
vectors_of r u = map (candidate r u) (range_with_len 0 (u.size * u.size))

-- these vectors, and that of no motion where there are none
abbrev pub or_no_motion : List Vector → List Vector
or_no_motion [] = no_motion ∷ []
or_no_motion (v ∷ vs) = v ∷ vs

-- the vectors that may be taken: all of them, and where streams are to be shown alike those that keep inside from all
-- blocks of the unit, or that of no motion where none does
abbrev pub taken_vectors : Deciding → View → PredictionUnit → List Vector
taken_vectors d r u =
    if d.alike == 0 then vectors_of r u else or_no_motion (filter (unit_keeps d u) (vectors_of r u))

-- the modes that are tried for a unit: reference 1, with two references also reference 2 and both, and DC values
abbrev pub modes_of : Deciding → PredictionUnit → List Choice
modes_of d u = first_mode d u ∷ other_modes d u d.second

-- the cost of a mode
abbrev pub cost_of_mode : Choice → ℕ
cost_of_mode c = c.cost

-- the splits that are tried for a superblock
abbrev pub splits : List ℕ
splits = 0 ∷ 1 ∷ 2 ∷ []

-- a unit's best vector is the first of least cost
abbrev pub UnitVectorsAreLeast : Type 0
UnitVectorsAreLeast =
    (d : Deciding) (r : View) (u : PredictionUnit) → 1 ≤ u.size
    → IsFirstOfLeastCost (vector_cost d r u) (taken_vectors d r u) (best_vector d r u)

-- a unit's mode is the first of least cost
abbrev pub ModesAreLeast : Type 0
ModesAreLeast = (d : Deciding) (u : PredictionUnit) → IsFirstOfLeastCost cost_of_mode (modes_of d u) (choice_of d u)

-- a superblock's split is the first of least cost
abbrev pub SplitsAreLeast : Type 0
SplitsAreLeast =
    (d : Deciding) (sx sy : ℕ) → IsFirstOfLeastCost (split_cost d sx sy) splits (best_split d sx sy)
