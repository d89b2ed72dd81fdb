-- What a stage of a search has for each of its blocks.
use Rattle.std.proofs.Common.{ℕ, ◌*◌, ◌<◌, ◌≤◌, Option, Some, None, arith}
use Rattle.dirac_costs.specs.declared.window.Window.{Window}
use Rattle.dirac_types.specs.declared.settings.Settings.{Settings}
use Rattle.dirac_search.specs.declared.stage.Stage.{Stage}
use Rattle.dirac_search.specs.declared.stage.Stage.TheVariants as stage
use Rattle.dirac_search.specs.declared.stage.Staged.{Staged}
use Rattle.dirac_search.specs.Candidates.{HasFormer, Vectors}
use Rattle.dirac_search.specs.Costs.{IsBlockWindow, level_of_stage}
use Rattle.dirac_search.specs.Fields.{HasFormerField, IsSearch, IsStage}
use Rattle.dirac_search.specs.Given.{Searched, searched_of, lent}
use Rattle.dirac_search.specs.InBytes.{AreGiven}
use Rattle.dirac_search.specs.Staged.{IsCompared, IsSearched, IsStaged}
use Rattle.dirac_search.proofs.Choosing.{stage_level, stage_precision}

former_at : (g : Searched) (st : Stage) (before : Option Vectors) (i j : ℕ) → HasFormerField g st before → i < 4 * g.across → j < 4 * g.down → HasFormer st before i j
former_at g (stage.Coarse l) None i j is column row = tt
former_at g (stage.Coarse l) (Some f) i j is column row = is
former_at g (stage.Finer l) None i j is column row = is
former_at g (stage.Finer l) (Some f) i j is column row = record { column = omega (arith, is.across, column); row = omega (arith, is.down, row); within = is.within }
former_at g (stage.Sub q) None i j is column row = is
former_at g (stage.Sub q) (Some f) i j is column row = record { column = omega (arith, is.across, column); row = omega (arith, is.down, row); within = is.within }

pub searched_at : (x : Staged) (before : Option Vectors) (i j : ℕ) → IsStaged x before → i < 4 * x.search.now.across → j < 4 * x.search.now.down → IsSearched x before i j
searched_at x before i j is column row = record {
  search = is.search;
  stage = is.stage;
  bytes = is.bytes;
  former = former_at (searched_of x.search.now) x.stage before i j is.former column row;
  column = column;
  row = row;
}

pub level_at : (g : Searched) (s : Settings) (st : Stage) → IsSearch g s → IsStage s st → level_of_stage st ≤ 4
level_at g s st is has = omega (arith, stage_level s st has, is.pyramid)

pub compared_at : (x : Staged) (w : Window) → IsSearch (searched_of x.search.now) x.settings.now → IsStage x.settings.now x.stage → AreGiven (searched_of x.search.now) (lent x.bytes) → IsBlockWindow w → IsCompared x w
compared_at x w is has bytes within = record {
  levels = (omega (arith, stage_level x.settings.now x.stage has, is.source), omega (arith, stage_level x.settings.now x.stage has, is.reference));
  precision = stage_precision x.settings.now x.stage has is.precision;
  at_most_255 = is.bias;
  bytes = bytes;
  window = within;
}
