-- The candidates that keep inside.
use Rattle.std.specs.Prelude.{ℕ, ◌^◌, ◌==◌, if◌then◌else◌, Bool, List, ◌∷◌, Option}
use Rattle.std.specs.List.{filter}
use Rattle.dirac_common.specs.declared.formats.Vector.{Vector}
use Rattle.dirac_types.specs.Settings.{step_across, step_down}
use Rattle.dirac_types.specs.declared.settings.Settings.{Settings}
use Rattle.dirac_inside.specs.Inside.{keeps_inside, vector_times}
use Rattle.dirac_inside.specs.declared.picture_blocks.PictureBlocks.{PictureBlocks}
use Rattle.dirac_search.specs.declared.stage.Stage.{Stage}
use Rattle.dirac_search.specs.declared.stage.Stage.TheVariants as stage
use Rattle.dirac_search.specs.Candidates.{Vectors, further_candidates, no_motion}
use Rattle.dirac_search.specs.Costs.{level_of_stage}
use Rattle.dirac_search.specs.Given.{Searched}

-- the blocks of the picture that is searched; its planes are as large as those of the reference
abbrev pub searched_blocks : Searched → Settings → PictureBlocks
searched_blocks g s = record {
  grid = g.grid;
  width = g.up.width;
  height = g.up.height;
  across_ratio = step_across s.chroma;
  down_ratio = step_down s.chroma;
}

-- the vectors of a stage count in 2 to this power parts of a sample
abbrev pub precision_of : Stage → ℕ
precision_of (stage.Coarse l) = 0
precision_of (stage.Finer l) = 0
precision_of (stage.Sub q) = q

-- whether a vector of a stage keeps inside from block i of row j; on level l it counts as 2 ^ l times itself
unfoldable pub stage_keeps : Searched → Settings → Stage → ℕ → ℕ → Vector → Bool
stage_keeps g s stage i j v =
    keeps_inside (searched_blocks g s) (precision_of stage) i j (vector_times (2 ^ level_of_stage stage) v)

-- the vectors among these that may be taken at a stage: all, and where streams are to be shown alike, just those that
-- keep inside
unfoldable pub candidates_kept : Searched → Settings → Stage → ℕ → ℕ → List Vector → List Vector
candidates_kept g s stage i j vs = if s.alike == 0 then vs else filter (stage_keeps g s stage i j) vs

-- the candidates behind the vector of no motion that may be taken
abbrev pub kept_candidates : Searched → Settings → Stage → Option Vectors → ℕ → ℕ → List Vector
kept_candidates g s stage before i j = candidates_kept g s stage i j (further_candidates stage s.range before i j)

-- all candidates that may be taken
abbrev pub taken_candidates : Searched → Settings → Stage → Option Vectors → ℕ → ℕ → List Vector
taken_candidates g s stage before i j = no_motion ∷ kept_candidates g s stage before i j
