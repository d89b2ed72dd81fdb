-- What vectors that keep inside predict.
use Rattle.std.specs.Prelude.{◌≡◌, ℕ, ◌<◌, true}
use Rattle.std.specs.Option.{ForSome}
use Rattle.dirac_common.specs.declared.formats.Vector.{Vector}
use Rattle.dirac_block_table.specs.Tables.{block_at}
use Rattle.dirac_inside.specs.Inside.{is_inside}
use Rattle.dirac_inside.specs.declared.picture_blocks.PictureBlocks.{PictureBlocks}
use Rattle.dirac_obmc.specs.Compensation.{Compensation, IsCompensation, across_ratio, blocks_across, blocks_down}
use Rattle.dirac_obmc.specs.Compensation.{down_ratio}
use Rattle.dirac_obmc.specs.Compensation.{position, predicted_plane, weight_of}
use Rattle.dirac_inside_laws.specs.Extended.{Extends, HalfSamples, clamped, clamped_second, extended_plane}
use Rattle.dirac_inside_laws.specs.Kept.{IsPlaneOf, VectorsKeepInside}

-- the position to which a vector leads from column x of row y takes half samples of the reference alone
pub record LeadsInside (m : Compensation) (v : Vector) (x y : ℕ) : Type 0 where
  pub across : is_inside m.prediction.precision m.width
      (position m.prediction.precision (across_ratio m) x v.x) ≡ true
  pub down : is_inside m.prediction.precision m.height
      (position m.prediction.precision (down_ratio m) y v.y) ≡ true

-- so do all positions whose block has a weight there
abbrev pub WeightedPositionsAreInside : Type 0
WeightedPositionsAreInside =
    (p : PictureBlocks) (m : Compensation) → IsPlaneOf p m → VectorsKeepInside p m.prediction.precision m.blocks
    → (i j x y : ℕ) → i < blocks_across m → j < blocks_down m → x < m.width → y < m.height → 0 < weight_of m x y j i
    → ((block_at m.blocks i j).ref1 ≡ true → LeadsInside m (block_at m.blocks i j).v1 x y)
    × ((block_at m.blocks i j).ref2 ≡ true → LeadsInside m (block_at m.blocks i j).v2 x y)

-- where the vectors keep inside, every way to extend the references predicts the plane that is predicted
abbrev pub ExtensionsPredictAlike : Type 0
ExtensionsPredictAlike =
    (p : PictureBlocks) (m : Compensation) (first second : HalfSamples) → IsCompensation m → IsPlaneOf p m
    → VectorsKeepInside p m.prediction.precision m.blocks → Extends m.up1 first → ForSome m.up2 (λ u. Extends u second)
    → extended_plane m first second ≡ predicted_plane m

-- to clamp positions is one of these ways, and the one by which planes are predicted, whatever their vectors
abbrev pub ClampingExtends : Type 0
ClampingExtends = (m : Compensation) → extended_plane m (clamped m.up1) (clamped_second m.up2) ≡ predicted_plane m
