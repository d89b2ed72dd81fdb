-- A stage of a search.
use Rattle.std.specs.Prelude.{ℕ, ◌-◌, ◌*◌, ◌<◌, ◌≤◌, nat_le, if◌then◌else◌, Option}
use Rattle.dirac_common.specs.declared.formats.Vector.{Vector}
use Rattle.dirac_types.specs.declared.settings.Settings.{Settings}
use Rattle.dirac_search.specs.declared.stage.Stage.{Stage}
use Rattle.dirac_search.specs.declared.stage.Stage.TheVariants as stage
use Rattle.dirac_search.specs.declared.stage.Staged.{Staged}
use Rattle.dirac_costs.specs.declared.window.Window.{Window}
use Rattle.dirac_search.specs.Candidates.{HasFormer, Vectors}
use Rattle.dirac_search.specs.Costs.{HasLevel, HasPrecision, IsBlockWindow, window_cost}
use Rattle.dirac_search.specs.Fields.{HasFormerField, IsSearch, IsStage, best_of}
use Rattle.dirac_search.specs.Given.{searched_of, lent}
use Rattle.dirac_search.specs.InBytes.{AreGiven}

-- settings and sizes are in their ranges, the settings have the stage, the bytes are the samples of the source, and the
-- vectors of the former stage are there
pub record IsStaged (x : Staged) (before : Option Vectors) : Type 0 where
  pub search : IsSearch (searched_of x.search.now) x.settings.now
  pub stage : IsStage x.settings.now x.stage
  pub bytes : AreGiven (searched_of x.search.now) (lent x.bytes)
  pub former : HasFormerField (searched_of x.search.now) x.stage before

-- block i of row j can be searched at a stage: settings and sizes are in their ranges, the settings have the stage, the
-- bytes are the samples of the source, and the vectors of the former stage are there
pub record IsSearched (x : Staged) (before : Option Vectors) (i j : ℕ) : Type 0 where
  pub search : IsSearch (searched_of x.search.now) x.settings.now
  pub stage : IsStage x.settings.now x.stage
  pub bytes : AreGiven (searched_of x.search.now) (lent x.bytes)
  pub former : HasFormer x.stage before i j
  pub column : i < 4 * x.search.now.across
  pub row : j < 4 * x.search.now.down

-- a window that can be compared at a stage
pub record IsCompared (x : Staged) (w : Window) : Type 0 where
  pub levels : HasLevel (searched_of x.search.now) x.stage
  pub precision : HasPrecision x.stage
  pub at_most_255 : x.settings.now.bias ≤ 255
  pub bytes : AreGiven (searched_of x.search.now) (lent x.bytes)
  pub window : IsBlockWindow w

-- what a vector costs a window at a stage
abbrev pub cost_at : Staged → Window → Vector → ℕ
cost_at x w v = window_cost (searched_of x.search.now) x.settings.now.bias x.stage w v

-- the first of least cost of the candidates of block i of row j that may be taken at a stage
abbrev pub best_at : Staged → Option Vectors → ℕ → ℕ → Vector
best_at x before i j = best_of (searched_of x.search.now) x.settings.now x.stage before i j

-- the stage behind n others, the first of which is the coarse one
abbrev pub stage_behind : Settings → ℕ → Stage
stage_behind s n = if nat_le n s.pyramid then stage.Finer (s.pyramid - n) else stage.Sub (n - s.pyramid)
