-- Units of blocks: their windows, their candidates, and what these cost.
use Rattle.std.specs.Prelude.{ℕ, ℤ, pos, ◌+◌, ◌-◌, ◌*◌, ◌/◌, ◌%◌, ◌^◌, ◌+ℤ◌, ◌==◌, if◌then◌else◌, Bool, List, [], ◌∷◌}
use Rattle.std.specs.Prelude.{map}
use Rattle.std.specs.List.{filter, range_with_len}
use Rattle.dirac_common.specs.declared.formats.Vector.{Vector}
use Rattle.dirac_common.specs.declared.formats.BlockGrid.{BlockGrid}
use Rattle.dirac_upconvert.specs.SubSamples.{Up, sub_sample}
use Rattle.dirac_costs.specs.declared.window.Window.{Window}
use Rattle.dirac_costs.specs.Bits.{bits_of_vector}
use Rattle.dirac_costs.specs.Least.{first_least, first_least_to}
use Rattle.dirac_costs.specs.Sums.{sum_below}
use Rattle.dirac_costs.specs.Windows.{apart, over, sample_at}
use Rattle.dirac_inside.specs.Inside.{all_below, keeps_inside}
use Rattle.dirac_inside.specs.declared.picture_blocks.PictureBlocks.{PictureBlocks}
use Rattle.dirac_search.specs.Candidates.{no_motion, field_vector}
use Rattle.dirac_decide.specs.Deciding.{Deciding, View}
use Rattle.dirac_decide.specs.declared.prediction_unit.PredictionUnit.{PredictionUnit}

-- the window of block i of row j
abbrev pub block_window : BlockGrid → ℕ → ℕ → Window
block_window g i j = record { x = i * g.xbsep; y = j * g.ybsep; columns = g.xbsep; rows = g.ybsep }

-- the window of a unit: the windows of all its blocks together
abbrev pub unit_window : BlockGrid → PredictionUnit → Window
unit_window g u = record { x = u.i * g.xbsep; y = u.j * g.ybsep; columns = u.size * g.xbsep; rows = u.size * g.ybsep }

-- the sum of absolute differences of a source's luma and of other samples in block i of row j
abbrev pub block_distortion : Deciding → (ℕ → ℕ → ℤ) → ℕ → ℕ → ℕ
block_distortion d f i j = over (block_window d.grid i j) (apart (sample_at d.y) f)

-- the sum of absolute differences of a source's luma and of other samples over the blocks of a unit
unfoldable pub unit_distortion : Deciding → PredictionUnit → (ℕ → ℕ → ℤ) → ℕ
unit_distortion d u f = sum_below (λ b. sum_below (λ a. block_distortion d f (u.i + a) (u.j + b)) u.size) u.size

-- the samples of a reference to which a vector leads; both count in 2 ^ precision parts of a sample
abbrev pub samples_led_to : ℕ → Up → Vector → ℕ → ℕ → ℤ
samples_led_to precision up v x y =
    sub_sample up precision (pos (2 ^ precision * x) +ℤ v.x) (pos (2 ^ precision * y) +ℤ v.y)

-- candidate k of a unit: the vector of its block k, by rows
abbrev pub candidate : View → PredictionUnit → ℕ → Vector
candidate r u k = field_vector r.field (u.i + k % u.size) (u.j + k / u.size)

-- what a vector costs a unit: the differences, and the bias for each bit of the vector
abbrev pub vector_cost : Deciding → View → PredictionUnit → Vector → ℕ
vector_cost d r u v = unit_distortion d u (samples_led_to d.precision r.up v) + d.bias * bits_of_vector v

-- what candidate k of a unit costs the unit
abbrev pub candidate_cost : Deciding → View → PredictionUnit → ℕ → ℕ
candidate_cost d r u k = vector_cost d r u (candidate r u k)

-- the number of the first candidate of least cost of a unit
abbrev pub best_place : Deciding → View → PredictionUnit → ℕ
best_place d r u = first_least_to (candidate_cost d r u) (u.size * u.size - 1)

-- the blocks of the picture and the sizes of its planes
abbrev pub decided_blocks : Deciding → PictureBlocks
decided_blocks d = record {
  grid = d.grid;
  width = d.y.width;
  height = d.y.height;
  across_ratio = d.across_ratio;
  down_ratio = d.down_ratio;
}

-- whether a vector keeps inside from block k of a unit, by rows
abbrev pub block_keeps : Deciding → PredictionUnit → Vector → ℕ → Bool
block_keeps d u v k = keeps_inside (decided_blocks d) d.precision (u.i + k % u.size) (u.j + k / u.size) v

-- whether a vector keeps inside from all blocks of a unit
unfoldable pub unit_keeps : Deciding → PredictionUnit → Vector → Bool
unit_keeps d u v = all_below (block_keeps d u v) (u.size * u.size)

-- the candidates among the first n of a unit that keep inside from all its blocks
abbrev pub inside_to : Deciding → View → PredictionUnit → ℕ → List Vector
inside_to d r u n = filter (unit_keeps d u) (map (candidate r u) (range_with_len 0 n))

-- the first of least cost of some vectors; where there are none, the vector of no motion
abbrev pub first_or_none : (Vector → ℕ) → List Vector → Vector
first_or_none cost [] = no_motion
first_or_none cost (v ∷ vs) = first_least cost v vs

-- the first of least cost of the candidates of a unit that keep inside
abbrev pub best_inside : Deciding → View → PredictionUnit → Vector
best_inside d r u = first_or_none (vector_cost d r u) (inside_to d r u (u.size * u.size))

-- the first candidate of least cost of a unit; where streams are to be shown alike, the first of just the candidates
-- that keep inside
unfoldable pub best_vector : Deciding → View → PredictionUnit → Vector
best_vector d r u = if d.alike == 0 then candidate r u (best_place d r u) else best_inside d r u

-- what the best vector of a unit costs the unit
abbrev pub least_cost : Deciding → View → PredictionUnit → ℕ
least_cost d r u = vector_cost d r u (best_vector d r u)
