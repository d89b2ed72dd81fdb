-- What the fields of a search are, in words.
use Rattle.std.specs.Prelude.{◌≡◌, ℕ, suc, ◌-◌, ◌*◌, ◌<◌, Option, None, Some}
use Rattle.std.specs.List.{filter}
use Rattle.dirac_types.specs.declared.settings.Settings.{Settings}
use Rattle.dirac_inside.specs.Inside.{KeepsInside}
use Rattle.dirac_search.specs.declared.stage.Stage.{Stage}
use Rattle.dirac_search.specs.declared.stage.Stage.TheVariants as stage
use Rattle.dirac_search.specs.Candidates.{Vectors, candidates_of, field_vector}
use Rattle.dirac_search.specs.Costs.{cost_of}
use Rattle.dirac_search.specs.Fields.{IsSearch, IsStage, after_finer, after_sub, field}
use Rattle.dirac_search.specs.Given.{Searched}
use Rattle.dirac_search.specs.Kept.{searched_blocks, stage_keeps, taken_candidates}
use Rattle.dirac_search_laws.specs.Least.{IsFirstOfLeastCost}

-- after a stage the vector of each block is the first of least cost among the block's candidates at this stage, those
-- that may be taken
abbrev pub AreLeastVectors : Searched → Settings → Stage → Option Vectors → Vectors → Type 0
AreLeastVectors g s stage before after =
    (i j : ℕ) → i < 4 * g.across → j < 4 * g.down
    → IsFirstOfLeastCost (cost_of g s.bias stage i j) (taken_candidates g s stage before i j) (field_vector after i j)

-- the vectors are of least cost after the coarse stage, after each finer one, and after each in parts of a sample: the
-- field of a search is the vectors after its last stage
pub record IsLeastField (g : Searched) (s : Settings) : Type 0 where
  pub coarse : AreLeastVectors g s (stage.Coarse s.pyramid) None (after_finer g s 0)
  pub finer : (k : ℕ)
      → AreLeastVectors g s (stage.Finer (s.pyramid - suc k)) (Some (after_finer g s k)) (after_finer g s (suc k))
  pub sub : (q : ℕ) → AreLeastVectors g s (stage.Sub (suc q)) (Some (after_sub g s q)) (after_sub g s (suc q))

-- in every search the vectors are of least cost after each stage
abbrev pub VectorsCostLeast : Type 0
VectorsCostLeast = (g : Searched) (s : Settings) → IsLeastField g s

-- where streams needn't be shown alike, all candidates may be taken at a stage
abbrev pub AllMayBeTaken : Type 0
AllMayBeTaken =
    (g : Searched) (s : Settings) (stage : Stage) (before : Option Vectors) (i j : ℕ) → s.alike ≡ 0
    → taken_candidates g s stage before i j ≡ candidates_of stage s.range before i j

-- where streams are to be shown alike, just the candidates that keep inside may be taken at a stage, in their order;
-- the vector of no motion is one of them
abbrev pub InsidesMayBeTaken : Type 0
InsidesMayBeTaken =
    (g : Searched) (s : Settings) (stage : Stage) (before : Option Vectors) (i j : ℕ)
    → IsSearch g s → IsStage s stage → (s.alike ≡ 0 → ⊥)
    → taken_candidates g s stage before i j
    ≡ filter (stage_keeps g s stage i j) (candidates_of stage s.range before i j)

-- where streams are to be shown alike, all vectors of the field of a search keep inside
abbrev pub FieldsKeepInside : Type 0
FieldsKeepInside =
    (g : Searched) (s : Settings) → IsSearch g s → (s.alike ≡ 0 → ⊥)
    → (i j : ℕ) → i < 4 * g.across → j < 4 * g.down
    → KeepsInside (searched_blocks g s) s.precision i j (field_vector (field g s) i j)

-- settings that differ in the number of workers alone have the same field
abbrev pub WorkersChangeNoField : Type 0
WorkersChangeNoField =
    (g : Searched) (s : Settings) (workers : ℕ) → field g (record s { workers = workers }) ≡ field g s
