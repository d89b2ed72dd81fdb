-- Block tables whose vectors keep inside.
use Rattle.std.specs.Prelude.{◌≡◌, ℕ, ◌*◌, ◌/◌, ◌<◌, true}
use Rattle.dirac_common.specs.Ratios.{ratio_across, ratio_down}
use Rattle.dirac_block_table.specs.Tables.{BlockTable, block_at}
use Rattle.dirac_block_table.specs.declared.block.Block.{Block}
use Rattle.dirac_inside.specs.Inside.{KeepsInside}
use Rattle.dirac_inside.specs.declared.picture_blocks.PictureBlocks.{PictureBlocks}
use Rattle.dirac_obmc.specs.Compensation.{Compensation, across_ratio, down_ratio}

-- the vectors that block i of row j has keep inside
pub record BlockKeepsInside (p : PictureBlocks) (precision i j : ℕ) (b : Block) : Type 0 where
  pub first : b.ref1 ≡ true → KeepsInside p precision i j b.v1
  pub second : b.ref2 ≡ true → KeepsInside p precision i j b.v2

-- so do those of all blocks of a table
abbrev pub VectorsKeepInside : PictureBlocks → ℕ → BlockTable → Type 0
VectorsKeepInside p precision t =
    (i j : ℕ) → i < 4 * t.across → j < 4 * t.down → BlockKeepsInside p precision i j (block_at t i j)

-- a plane that is predicted is one of a picture with these blocks
pub record IsPlaneOf (p : PictureBlocks) (m : Compensation) : Type 0 where
  pub grid : m.prediction.grid ≡ p.grid
  pub chroma_across : ratio_across m.chroma ≡ p.across_ratio
  pub chroma_down : ratio_down m.chroma ≡ p.down_ratio
  pub width : m.width ≡ p.width / across_ratio m
  pub height : m.height ≡ p.height / down_ratio m
