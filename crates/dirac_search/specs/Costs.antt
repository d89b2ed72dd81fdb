-- What a vector costs a block at a stage of the search.
use Rattle.std.specs.Prelude.{◌≡◌, ℕ, ℤ, pos, ◌+◌, ◌*◌, ◌/◌, ◌^◌, ◌<◌, ◌≤◌, ◌==◌, ◌+ℤ◌, ◌-ℤ◌, unsigned_abs}
use Rattle.std.specs.Prelude.{if◌then◌else◌, length, slice_index_or, Option, IfSome, IfNone}
use Rattle.dirac_common.specs.Table.{Table, clamped_at}
use Rattle.dirac_common.specs.declared.formats.Vector.{Vector}
use Rattle.dirac_upconvert.specs.SubSamples.{sub_sample}
use Rattle.dirac_costs.specs.Bits.{bits_of_vector}
use Rattle.dirac_costs.specs.Windows.{over, sample_at}
use Rattle.dirac_costs.specs.declared.window.Window.{Window}
use Rattle.dirac_pyramid.specs.Pyramid.{no_plane}
use Rattle.dirac_search.specs.declared.stage.Stage.{Stage}
use Rattle.dirac_search.specs.declared.stage.Stage.TheVariants as stage
use Rattle.dirac_search.specs.Given.{Searched}

-- the level of the pyramids on which a stage compares
abbrev pub level_of_stage : Stage → ℕ
level_of_stage (stage.Coarse l) = l
level_of_stage (stage.Finer l) = l
level_of_stage (stage.Sub q) = 0

-- where a block begins at a level, in a direction with this separation
abbrev pub window_start : ℕ → ℕ → ℕ → ℕ
window_start block separation level = block * separation / 2 ^ level

-- how many samples the window of a block has at a level, in a direction with this separation: at least one
abbrev pub window_size : ℕ → ℕ → ℕ
window_size separation level = if separation / 2 ^ level == 0 then 1 else separation / 2 ^ level

-- the window of block i of row j at a stage
abbrev pub window_of : Searched → Stage → ℕ → ℕ → Window
window_of g stage i j = record {
  x = window_start i g.grid.xbsep (level_of_stage stage);
  y = window_start j g.grid.ybsep (level_of_stage stage);
  columns = window_size g.grid.xbsep (level_of_stage stage);
  rows = window_size g.grid.ybsep (level_of_stage stage);
}

-- the sample to which a vector leads from column x of row y; the position is clamped after the vector is added
abbrev pub whole_sample : Table → Vector → ℕ → ℕ → ℤ
whole_sample t v x y = clamped_at t (pos x +ℤ v.x) (pos y +ℤ v.y)

-- the sample of the reference to which a vector leads at a stage
abbrev pub sample_at_stage : Searched → Stage → Vector → ℕ → ℕ → ℤ
sample_at_stage g (stage.Coarse l) v x y = whole_sample (slice_index_or g.reference l no_plane) v x y
sample_at_stage g (stage.Finer l) v x y = whole_sample (slice_index_or g.reference l no_plane) v x y
sample_at_stage g (stage.Sub q) v x y = sub_sample g.up q (pos (2 ^ q * x) +ℤ v.x) (pos (2 ^ q * y) +ℤ v.y)

-- the sample of the source at a stage, its position clamped
abbrev pub source_sample : Searched → Stage → ℕ → ℕ → ℤ
source_sample g stage x y = sample_at (slice_index_or g.source (level_of_stage stage) no_plane) x y

-- how far source and moved reference are apart in column x of row y
unfoldable pub difference : Searched → Stage → Vector → ℕ → ℕ → ℕ
difference g stage v x y = unsigned_abs (source_sample g stage x y -ℤ sample_at_stage g stage v x y)

-- the sum of absolute differences over a window
abbrev pub distortion : Searched → Stage → Window → Vector → ℕ
distortion g stage w v = over w (difference g stage v)

-- what a vector costs a window: the differences, and the bias for each bit of the vector
unfoldable pub window_cost : Searched → ℕ → Stage → Window → Vector → ℕ
window_cost g bias stage w v = bias * bits_of_vector v + distortion g stage w v

-- what a vector costs block i of row j
abbrev pub cost_of : Searched → ℕ → Stage → ℕ → ℕ → Vector → ℕ
cost_of g bias stage i j v = window_cost g bias stage (window_of g stage i j) v

-- a number is a cost that is below a limit
abbrev pub IsCostBelow : ℕ → ℕ → ℕ → Type 0
IsCostBelow limit cost n = (n ≡ cost) × (n < limit)

-- a cost reaches a limit, which then is one that costs can reach
abbrev pub Reaches : ℕ → ℕ → Type 0
Reaches limit cost = (limit ≤ cost) × (limit < 2 ^ 25)

-- what is answered of a cost, where its summing stops at a limit
pub record StopsAt (limit cost : ℕ) (answer : Option ℕ) : Type 0 where
  pub below : IfSome answer (IsCostBelow limit cost)
  pub above : IfNone answer (Reaches limit cost)

-- both pyramids have the level of a stage
abbrev pub HasLevel : Searched → Stage → Type 0
HasLevel g stage = (level_of_stage stage < length g.source) × (level_of_stage stage < length g.reference)

-- a stage in parts of a sample has at most eight to a sample
abbrev pub HasPrecision : Stage → Type 0
HasPrecision (stage.Coarse l) = Unit {0}
HasPrecision (stage.Finer l) = Unit {0}
HasPrecision (stage.Sub q) = q ≤ 3

-- a window where blocks are, of at most 16 by 16 samples
pub record IsBlockWindow (w : Window) : Type 0 where
  pub x : w.x ≤ 65536
  pub y : w.y ≤ 65536
  pub columns : w.columns ≤ 16
  pub rows : w.rows ≤ 16
