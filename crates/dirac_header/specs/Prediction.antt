-- The prediction parameters of an inter picture, field after field: picture prediction parameters, Dirac specification.
use Rattle.std.specs.Prelude.{ℕ, ℤ, pos, ◌==◌, nat_le, if◌then◌else◌, Bool, unsigned_abs}
use Rattle.dirac_common.specs.declared.faults.Cause.TheVariants.{BlockPreset, BlockSize, Precision, GlobalMotion}
use Rattle.dirac_common.specs.declared.faults.Cause.TheVariants.{PredictionMode, Weights as WeightRange}
use Rattle.dirac_common.specs.declared.formats.BlockGrid.{BlockGrid}
use Rattle.dirac_common.specs.declared.formats.Chroma.{Chroma}
use Rattle.dirac_bits.specs.Syntax.{Syntax, done, refuse, ◌>>=◌, flag, uint, sint, align, here, number_field, between}
use Rattle.dirac_bits.specs.Syntax.{custom}
pub use Rattle.dirac_parameters.specs.Grids.{grid, grid_of, is_overlap, is_divisible, is_grid}
use Rattle.dirac_parameters.specs.declared.prediction.Prediction.{Prediction}
use Rattle.dirac_header.specs.declared.prediction.Weights.{Weights}
use Rattle.dirac_header.specs.Codes.{references_of}

-- block parameters that stand in the picture, refused at the first of them
unfoldable pub own_grid : Chroma → Syntax BlockGrid
own_grid chroma = do
  at ← here
  xblen ← uint
  yblen ← uint
  xbsep ← uint
  ybsep ← uint
  if is_grid chroma (grid xblen yblen xbsep ybsep) then done (grid xblen yblen xbsep ybsep) else refuse at BlockSize

-- the block sizes: those of an index, or behind index 0 their own
unfoldable pub block_grid : Chroma → Syntax BlockGrid
block_grid chroma = do
  at ← here
  index ← uint
  if index == 0 then own_grid chroma else if between 2 4 index then done (grid_of index) else refuse at BlockPreset

-- the precision of motion vectors
unfoldable pub vector_precision : Syntax ℕ
vector_precision = number_field Precision (between 0 3)

-- a weight of a reference
unfoldable pub weight : Syntax ℤ
weight = do
  at ← here
  w ← sint
  if nat_le (unsigned_abs w) 255 then done w else refuse at WeightRange

-- the second weight, where there are two references
unfoldable pub second_weight : Bool → Syntax ℤ
second_weight two = if two then weight else done (pos 1)

-- weights that stand in the picture, with their precision
unfoldable pub own_weights : Bool → Syntax Weights
own_weights two = do
  bits ← number_field WeightRange (between 1 8)
  first ← weight
  second ← second_weight two
  done (record { bits = bits; first = first; second = second })

-- the weights of the references, else 1 and 1 with precision 1
unfoldable pub weights : Bool → Syntax Weights
weights two = custom (record { bits = 1; first = pos 1; second = pos 1 }) (own_weights two)

-- no global motion, and picture prediction mode 0
unfoldable pub modes : Syntax (Unit {0})
modes = do
  at ← here
  global ← flag
  if global then refuse at GlobalMotion else (number_field PredictionMode (between 0 0) >>= λ mode. done tt)

-- the parameters with these weights
abbrev pub prediction_with : BlockGrid → ℕ → Weights → Prediction
prediction_with grid precision weights =
    record {
      grid = grid;
      precision = precision;
      weight_bits = weights.bits;
      weight1 = weights.first;
      weight2 = weights.second;
    }

-- the prediction parameters of a picture with this parse code in this chroma format
unfoldable pub prediction : ℕ → Chroma → Syntax Prediction
prediction code chroma = do
  aligned ← align
  grid ← block_grid chroma
  precision ← vector_precision
  none ← modes
  weights ← weights (references_of code == 2)
  done (prediction_with grid precision weights)
