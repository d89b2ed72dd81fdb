-- Room for what is decided.
use Rattle.std.specs.Prelude.{◌≡◌, ℕ, ◌<◌, ◌≤◌, ◌^◌, List, length}
use Rattle.std.specs.List.{All}
use Rattle.dirac_common.specs.declared.limits.TheConstants.{MOST_SUPERBLOCKS}
use Rattle.dirac_block_table.specs.declared.block.Block.{Block}
use Rattle.dirac_block_table.specs.Tables.{BlockTable, IsBlock}
use Rattle.dirac_decide.specs.Deciding.{Deciding}
use Rattle.dirac_decide.specs.Modes.{count_of_references}

-- room for the blocks of a split's units
pub record IsRoomForUnits (d : Deciding) (split : ℕ) (units : List Block) : Type 0 where
  pub len : length units ≡ 4 ^ split
  pub blocks : All (IsBlock (count_of_references d.second)) units

-- superblock sx of row sy is one of those that are decided
pub record IsSuperblock (d : Deciding) (sx sy : ℕ) : Type 0 where
  pub across : (sx < d.across) × (d.across ≤ MOST_SUPERBLOCKS)
  pub down : (sy < d.down) × (d.down ≤ MOST_SUPERBLOCKS)

-- a table of the sizes that are decided
pub record IsTableFor (d : Deciding) (t : BlockTable) : Type 0 where
  pub across : t.across ≡ d.across
  pub down : t.down ≡ d.down
  pub refs : t.refs ≡ count_of_references d.second
