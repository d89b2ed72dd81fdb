-- The best vectors of all blocks, stage by stage.
use Rattle.std.specs.Prelude.{◌≡◌, ℕ, zero, suc, ◌+◌, ◌-◌, ◌*◌, ◌^◌, ◌<◌, ◌≤◌, List, length, Option, Some, None}
use Rattle.std.specs.List.{All}
use Rattle.dirac_common.specs.declared.limits.TheConstants.{MOST_SUPERBLOCKS}
use Rattle.dirac_common.specs.declared.formats.Vector.{Vector}
use Rattle.dirac_types.specs.declared.settings.Settings.{Settings}
use Rattle.dirac_search.specs.declared.stage.Stage.{Stage}
use Rattle.dirac_search.specs.declared.stage.Stage.TheVariants as stage
use Rattle.dirac_search.specs.ByRows.{listed_by_rows}
use Rattle.dirac_search.specs.Candidates.{IsWithinReach, Vectors, no_motion}
use Rattle.dirac_costs.specs.Least.{first_least}
use Rattle.dirac_search.specs.Costs.{cost_of}
use Rattle.dirac_search.specs.Given.{Searched}
use Rattle.dirac_search.specs.Kept.{kept_candidates}

-- the first of least cost of the candidates of block i of row j that may be taken at a stage
unfoldable pub best_of : Searched → Settings → Stage → Option Vectors → ℕ → ℕ → Vector
best_of g s stage before i j =
    first_least (cost_of g s.bias stage i j) no_motion (kept_candidates g s stage before i j)

-- the best vectors of the four block rows of a row of superblocks
abbrev pub best_superblock_row : Searched → Settings → Stage → Option Vectors → ℕ → List Vector
best_superblock_row g s stage before row =
    listed_by_rows (4 * g.across) 4 (λ i j. best_of g s stage before i (4 * row + j))

-- the best vectors of all blocks at a stage
unfoldable pub stage_field : Searched → Settings → Stage → Option Vectors → Vectors
stage_field g s stage before = record {
  across = g.across;
  down = g.down;
  vectors = listed_by_rows (4 * g.across) (4 * g.down) (best_of g s stage before);
}

-- the vectors after the coarse stage and k finer ones
abbrev pub after_finer : Searched → Settings → ℕ → Vectors
after_finer g s zero = stage_field g s (stage.Coarse s.pyramid) None
after_finer g s (suc k) = stage_field g s (stage.Finer (s.pyramid - suc k)) (Some (after_finer g s k))

-- the vectors after all stages in whole samples and q in parts of a sample
abbrev pub after_sub : Searched → Settings → ℕ → Vectors
after_sub g s zero = after_finer g s s.pyramid
after_sub g s (suc q) = stage_field g s (stage.Sub (suc q)) (Some (after_sub g s q))

-- the vectors after the last stage
abbrev pub field : Searched → Settings → Vectors
field g s = after_sub g s s.precision

-- the settings have this stage
abbrev pub IsStage : Settings → Stage → Type 0
IsStage s (stage.Coarse l) = l ≡ s.pyramid
IsStage s (stage.Finer l) = l < s.pyramid
IsStage s (stage.Sub q) = (1 ≤ q) × (q ≤ s.precision)

-- what can be searched with these settings: settings and sizes are in their ranges, and both pyramids have the
-- settings' levels
pub record IsSearch (g : Searched) (s : Settings) : Type 0 where
  pub range : s.range ≤ 16
  pub pyramid : s.pyramid ≤ 4
  pub precision : s.precision ≤ 3
  pub bias : s.bias ≤ 255
  pub workers : (1 ≤ s.workers) × (s.workers ≤ 64)
  pub source : length g.source ≡ s.pyramid + 1
  pub reference : length g.reference ≡ s.pyramid + 1
  pub x_separation : g.grid.xbsep ≤ 16
  pub y_separation : g.grid.ybsep ≤ 16
  pub across : g.across ≤ MOST_SUPERBLOCKS
  pub down : g.down ≤ MOST_SUPERBLOCKS

-- the vectors of a former stage of a search, for as many superblocks as are searched
pub record IsFormerField (g : Searched) (f : Vectors) : Type 0 where
  pub across : f.across ≡ g.across
  pub down : f.down ≡ g.down
  pub within : All (IsWithinReach (2 ^ 22)) f.vectors

-- the vectors of a former stage of a search are given exactly where the stage isn't the first
abbrev pub HasFormerField : Searched → Stage → Option Vectors → Type 0
HasFormerField g (stage.Coarse l) None = Unit {0}
HasFormerField g (stage.Coarse l) (Some f) = ⊥
HasFormerField g (stage.Finer l) None = ⊥
HasFormerField g (stage.Finer l) (Some f) = IsFormerField g f
HasFormerField g (stage.Sub q) None = ⊥
HasFormerField g (stage.Sub q) (Some f) = IsFormerField g f
