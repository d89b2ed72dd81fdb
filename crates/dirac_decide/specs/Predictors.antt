-- What a unit's samples are compared with.
use Rattle.std.specs.Prelude.{◌≡◌, ℕ, ℤ, pos, ◌<◌, ◌≤◌, ◌*◌, ◌+◌, List, slice_index_or}
use Rattle.std.specs.List.{All}
use Rattle.dirac_vectors.specs.Predictions.{IsShortVector}
use Rattle.dirac_common.specs.Table.{Table}
use Rattle.dirac_costs.specs.declared.window.Window.{Window}
use Rattle.dirac_costs.specs.Windows.{apart, over, sample_at}
use Rattle.dirac_decide.specs.Deciding.{Deciding, IsFieldSize, View}
use Rattle.dirac_decide.specs.Modes.{means_of_samples, mean_of_samples}
use Rattle.dirac_decide.specs.Units.{unit_distortion, samples_led_to}
use Rattle.dirac_decide.specs.declared.prediction_unit.PredictionUnit.{PredictionUnit}
use Rattle.dirac_decide.specs.declared.predictor.Moved.{Moved}
use Rattle.dirac_decide.specs.declared.predictor.Predictor.{Predictor}
use Rattle.dirac_decide.specs.declared.predictor.Predictor.TheVariants as predictor

-- the samples to which a vector leads
abbrev pub moved_samples : ℕ → Moved → ℕ → ℕ → ℤ
moved_samples precision m = samples_led_to precision m.up.now m.vector

-- the means of the samples to which two vectors lead
abbrev pub both_samples : ℕ → Moved → Moved → ℕ → ℕ → ℤ
both_samples precision m n = means_of_samples (moved_samples precision m) (moved_samples precision n)

-- the mean of the values of two rows at place k
abbrev pub mean_in : List ℤ → List ℤ → ℕ → ℤ
mean_in first second k = mean_of_samples (slice_index_or first k (pos 0)) (slice_index_or second k (pos 0))

-- the samples of a predictor
abbrev pub predictor_samples : ℕ → Predictor → ℕ → ℕ → ℤ
predictor_samples precision (predictor.One m) = moved_samples precision m
predictor_samples precision (predictor.Both m n) = both_samples precision m n
predictor_samples precision (predictor.Flat value) = λ x y. value

-- bits, and how far a plane is from a predictor in a window
abbrev pub predictor_cost : Table → ℕ → Predictor → Window → ℕ → ℕ
predictor_cost t precision p w bits = bits + over w (apart (sample_at t) (predictor_samples precision p))

-- how far the source is from a predictor in a unit, and bits
abbrev pub unit_cost : Deciding → PredictionUnit → Predictor → ℕ → ℕ
unit_cost d u p bits = unit_distortion d u (predictor_samples d.precision p) + bits

-- the first n values of a row are these
abbrev pub RowIs : (ℕ → ℤ) → ℕ → List ℤ → Type 0
RowIs f n row = (k : ℕ) → k < n → slice_index_or row k (pos 0) ≡ f k

-- the first n values of a row are these samples of row y, from column x on
abbrev pub RowHolds : (ℕ → ℕ → ℤ) → ℕ → ℕ → ℕ → List ℤ → Type 0
RowHolds f x y n row = RowIs (λ k. f (x + k) y) n row

-- a predictor with vectors of 16 bits
abbrev pub IsPredictor : Predictor → Type 0
IsPredictor (predictor.One m) = IsShortVector m.vector
IsPredictor (predictor.Both m n) = IsShortVector m.vector × IsShortVector n.vector
IsPredictor (predictor.Flat value) = Unit {0}

-- a window that a unit can have
pub record IsUnitWindow (w : Window) : Type 0 where
  pub x : w.x ≤ 65536
  pub y : w.y ≤ 65536
  pub columns : (1 ≤ w.columns) × (w.columns ≤ 64)
  pub rows : (1 ≤ w.rows) × (w.rows ≤ 64)

-- a window of luma that has samples in chroma
pub record IsChromaSource (w : Window) : Type 0 where
  pub columns : 2 ≤ w.columns
  pub rows : 2 ≤ w.rows

-- a unit inside a table of that many superblocks
pub record IsPredictionUnit (across down : ℕ) (u : PredictionUnit) : Type 0 where
  pub size : (1 ≤ u.size) × (u.size ≤ 4)
  pub inside_across : u.i + u.size ≤ 4 * across
  pub inside_down : u.j + u.size ≤ 4 * down

-- a unit inside the table of a reference's vectors of 16 bits
pub record IsUnitOf (r : View) (u : PredictionUnit) : Type 0 where
  pub unit : IsPredictionUnit r.field.across r.field.down u
  pub field : IsFieldSize r.field
  pub of_16_bits : All IsShortVector r.field.vectors
