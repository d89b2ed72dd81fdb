-- After each stage the vector of each block is the first of least cost.
use Rattle.std.proofs.Common.{◌≡◌, ℕ, suc, ◌-◌, ◌*◌, ◌<◌, Option, None, Some, sym, subst}
use Rattle.dirac_types.specs.declared.settings.Settings.{Settings}
use Rattle.dirac_search.specs.declared.stage.Stage.{Stage}
use Rattle.dirac_search.specs.declared.stage.Stage.TheVariants as stage
use Rattle.dirac_search.specs.Candidates.{Vectors, no_motion, field_vector}
use Rattle.dirac_search.specs.Costs.{cost_of}
use Rattle.dirac_search.specs.Fields.{after_finer, after_sub, best_of, stage_field}
use Rattle.dirac_search.specs.Given.{Searched}
use Rattle.dirac_search.specs.Kept.{kept_candidates, taken_candidates}
use Rattle.dirac_search_laws.specs.Fields.{AreLeastVectors, VectorsCostLeast}
use Rattle.dirac_search_laws.specs.Least.{IsFirstOfLeastCost}
use Rattle.dirac_search_laws.proofs.Least.{first_of_least}
use Rattle.dirac_search_laws.proofs.Rows.{rows_at}

-- the best vector of a block at a stage
best_least : (g : Searched) (s : Settings) (st : Stage) (before : Option Vectors) (i j : ℕ)
    → IsFirstOfLeastCost (cost_of g s.bias st i j) (taken_candidates g s st before i j) (best_of g s st before i j)
unfolding best_of
best_least g s st before i j = first_of_least (cost_of g s.bias st i j) no_motion (kept_candidates g s st before i j)

-- it stands in the field of the stage
pub vector_is_best : (g : Searched) (s : Settings) (st : Stage) (before : Option Vectors) (i j : ℕ) → i < 4 * g.across → j < 4 * g.down
    → field_vector (stage_field g s st before) i j ≡ best_of g s st before i j
unfolding stage_field
vector_is_best g s st before i j column row = rows_at (4 * g.across) (4 * g.down) (best_of g s st before) i j no_motion column row

stage_least : (g : Searched) (s : Settings) (st : Stage) (before : Option Vectors) → AreLeastVectors g s st before (stage_field g s st before)
stage_least g s st before i j column row =
    subst (IsFirstOfLeastCost (cost_of g s.bias st i j) (taken_candidates g s st before i j)) (sym (vector_is_best g s st before i j column row))
    (best_least g s st before i j)

pub fields_cost_least : VectorsCostLeast
fields_cost_least g s = record {
  coarse = stage_least g s (stage.Coarse s.pyramid) None;
  finer = λ k. stage_least g s (stage.Finer (s.pyramid - suc k)) (Some (after_finer g s k));
  sub = λ q. stage_least g s (stage.Sub (suc q)) (Some (after_sub g s q));
}
