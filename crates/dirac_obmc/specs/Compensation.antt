-- What the blocks of a plane predict: overlapped block motion compensation, Dirac specification.
use Rattle.std.specs.Prelude.{◌≡◌, ℕ, zero, suc, ℤ, pos, ◌+◌, ◌-◌, ◌*◌, ◌/◌, ◌<◌, ◌≤◌, ◌+ℤ◌, ◌*ℤ◌, false}
use Rattle.std.specs.Prelude.{if◌then◌else◌, Option, Some, None, IsSome, IsTrue, unsigned_abs}
use Rattle.std.specs.Int.{int_shr}
use Rattle.std.specs.Option.{ForSome}
use Rattle.dirac_common.specs.declared.limits.TheConstants.{LARGEST_SIDE}
use Rattle.dirac_common.specs.Table.{Table, table_of}
use Rattle.dirac_common.specs.declared.formats.Chroma.{Chroma}
use Rattle.dirac_common.specs.declared.formats.Vector.{Vector}
use Rattle.dirac_common.specs.Ratios.{ratio_across, ratio_down}
use Rattle.dirac_parameters.specs.Grids.{is_grid}
use Rattle.dirac_parameters.specs.declared.prediction.Prediction.{Prediction}
use Rattle.dirac_block_table.specs.Tables.{BlockTable, block_at}
use Rattle.dirac_block_table.specs.declared.block.Block.{Block}
pub use Rattle.dirac_upconvert.specs.Places.{position}
use Rattle.dirac_upconvert.specs.SubSamples.{Up, rounded, sub_sample}
use Rattle.dirac_common.specs.declared.formats.Component.{Component}
use Rattle.dirac_common.specs.declared.formats.Component.TheVariants as component
use Rattle.dirac_obmc.specs.Weights.{share}

-- what a plane of an inter picture is predicted from, and the plane's size
pub record Compensation : Type 0 where
  pub blocks : BlockTable
  pub prediction : Prediction
  pub up1 : Up
  pub up2 : Option Up
  pub component : Component
  pub chroma : Chroma
  pub width : ℕ
  pub height : ℕ

-- how many luma samples a sample of this part stands for, in a direction where a chroma sample stands for that many
abbrev pub ratio_of : Component → ℕ → ℕ
ratio_of component.Y ratio = 1
ratio_of component.U ratio = ratio
ratio_of component.V ratio = ratio

-- how many luma samples one of this plane stands for, across
abbrev pub across_ratio : Compensation → ℕ
across_ratio m = ratio_of m.component (ratio_across m.chroma)

-- how many luma samples one of this plane stands for, down
abbrev pub down_ratio : Compensation → ℕ
down_ratio m = ratio_of m.component (ratio_down m.chroma)

-- how many samples of this plane a block has across
abbrev pub x_length : Compensation → ℕ
x_length m = m.prediction.grid.xblen / across_ratio m

-- how many samples of this plane a block has down
abbrev pub y_length : Compensation → ℕ
y_length m = m.prediction.grid.yblen / down_ratio m

-- how many samples of this plane lie between the starts of two blocks that stand side by side
abbrev pub x_separation : Compensation → ℕ
x_separation m = m.prediction.grid.xbsep / across_ratio m

-- how many samples of this plane lie between the starts of two blocks that stand one below the other
abbrev pub y_separation : Compensation → ℕ
y_separation m = m.prediction.grid.ybsep / down_ratio m

-- how many blocks stand side by side: a superblock has four
abbrev pub blocks_across : Compensation → ℕ
blocks_across m = 4 * m.blocks.across

-- how many blocks stand one below the other: a superblock has four
abbrev pub blocks_down : Compensation → ℕ
blocks_down m = 4 * m.blocks.down

-- the sample of a reference to which a vector leads from column x of row y
unfoldable pub moved_sample : Compensation → Up → Vector → ℕ → ℕ → ℤ
moved_sample m up v x y =
    sub_sample up m.prediction.precision
    (position m.prediction.precision (across_ratio m) x v.x)
    (position m.prediction.precision (down_ratio m) y v.y)

-- what a block with vector v takes from the second reference for the sample in column x of row y; 0 where there is none
abbrev pub second_sample : Compensation → Option Up → Vector → ℕ → ℕ → ℤ
second_sample m None v x y = pos 0
second_sample m (Some up) v x y = moved_sample m up v x y

-- the value of a block with one reference: both weights count for it
abbrev pub from_one : Prediction → ℤ → ℤ
from_one p v = rounded p.weight_bits (v *ℤ (p.weight1 +ℤ p.weight2))

-- the value of a block with two references
abbrev pub from_two : Prediction → ℤ → ℤ → ℤ
from_two p v1 v2 = rounded p.weight_bits (v1 *ℤ p.weight1 +ℤ v2 *ℤ p.weight2)

-- the DC value of a block for this part
abbrev pub component_dc : Component → Block → ℤ
component_dc component.Y b = b.dc_y
component_dc component.U b = b.dc_u
component_dc component.V b = b.dc_v

-- what a block predicts at column x of row y
unfoldable pub predicts : Compensation → Block → ℕ → ℕ → ℤ
predicts m b x y =
    if b.ref1
    then (if b.ref2
    then from_two m.prediction (moved_sample m m.up1 b.v1 x y) (second_sample m m.up2 b.v2 x y)
    else from_one m.prediction (moved_sample m m.up1 b.v1 x y))
    else (if b.ref2 then from_one m.prediction (second_sample m m.up2 b.v2 x y) else component_dc m.component b)

-- the sum of the first n values of f
abbrev pub signed_total : (ℕ → ℤ) → ℕ → ℤ
signed_total f zero = pos 0
signed_total f (suc n) = signed_total f n +ℤ f n

-- the weight of block i of row j at column x of row y: the product of its weights across and down
abbrev pub weight_of : Compensation → ℕ → ℕ → ℕ → ℕ → ℕ
weight_of m x y j i =
    share i (blocks_across m) (x_length m) (x_separation m) x * share j (blocks_down m) (y_length m) (y_separation m) y

-- what block i of row j adds at column x of row y: its weight times what it predicts
unfoldable pub term : Compensation → ℕ → ℕ → ℕ → ℕ → ℤ
term m x y j i = pos (weight_of m x y j i) *ℤ predicts m (block_at m.blocks i j) x y

-- the sum of what all blocks add at column x of row y
abbrev pub blended : Compensation → ℕ → ℕ → ℤ
blended m x y = signed_total (λ j. signed_total (term m x y j) (blocks_across m)) (blocks_down m)

-- the prediction of the sample in column x of row y
abbrev pub predicted_at : Compensation → ℕ → ℕ → ℤ
predicted_at m x y = int_shr (blended m x y +ℤ pos 32) 6

-- the prediction of rows first to end - 1 of a plane
abbrev pub predicted_rows : Compensation → ℕ → ℕ → Table
predicted_rows m first end = table_of m.width (end - first) (λ x y. predicted_at m x (first + y))

-- the prediction of a plane
abbrev pub predicted_plane : Compensation → Table
predicted_plane m = table_of m.width m.height (predicted_at m)

-- a plane that can be predicted: its blocks cover it, and its references come from planes of its size
pub record IsPredictable (m : Compensation) : Type 0 where
  pub grid : IsTrue (is_grid m.chroma m.prediction.grid)
  pub precision : m.prediction.precision ≤ 3
  pub bits : (1 ≤ m.prediction.weight_bits) × (m.prediction.weight_bits ≤ 8)
  pub weights : (unsigned_abs m.prediction.weight1 ≤ 255) × (unsigned_abs m.prediction.weight2 ≤ 255)
  pub covers_across : m.width ≤ blocks_across m * x_separation m
  pub covers_down : m.height ≤ blocks_down m * y_separation m
  pub first : (m.up1.width ≡ m.width) × (m.up1.height ≡ m.height)
  pub second : ForSome m.up2 (λ u. (u.width ≡ m.width) × (u.height ≡ m.height))
  pub two : m.blocks.refs ≡ 2 → IsSome m.up2

-- what a plane is predicted with, and the limits of its size, which every upconverted plane keeps
pub record IsCompensation (m : Compensation) : Type 0 where
  pub grid : IsTrue (is_grid m.chroma m.prediction.grid)
  pub precision : m.prediction.precision ≤ 3
  pub some_bits : 1 ≤ m.prediction.weight_bits
  pub most_bits : m.prediction.weight_bits ≤ 8
  pub weight1 : unsigned_abs m.prediction.weight1 ≤ 255
  pub weight2 : unsigned_abs m.prediction.weight2 ≤ 255
  pub some_across : 1 ≤ m.width
  pub most_across : m.width ≤ LARGEST_SIDE
  pub some_down : 1 ≤ m.height
  pub most_down : m.height ≤ LARGEST_SIDE
  pub covers_across : m.width ≤ blocks_across m * x_separation m
  pub covers_down : m.height ≤ blocks_down m * y_separation m
  pub first : (m.up1.width ≡ m.width) × (m.up1.height ≡ m.height)
  pub second : ForSome m.up2 (λ u. (u.width ≡ m.width) × (u.height ≡ m.height))
  pub two : m.blocks.refs ≡ 2 → IsSome m.up2

-- all blocks are DC blocks of one value
abbrev pub IsFlat : Compensation → ℤ → Type 0
IsFlat m v =
    (i j : ℕ) → i < blocks_across m → j < blocks_down m
    → ((block_at m.blocks i j).ref1 ≡ false) × ((block_at m.blocks i j).ref2 ≡ false)
    × (component_dc m.component (block_at m.blocks i j) ≡ v)
