-- A block table as it is filled in: empty at first, then split by split, then unit by unit.
use Rattle.std.specs.Prelude.{◌≡◌, ℕ, zero, suc, ◌+◌, ◌*◌, ◌^◌, ◌<◌, List, replicate, slice_index_or, slice_set}
use Rattle.dirac_block_table.specs.declared.block.Block.{Block}
use Rattle.dirac_block_table.specs.Tables.{BlockTable, grey, split_at, unit_size}

-- a table of which nothing is read: no superblock is split, and all blocks are DC blocks of value 0
abbrev pub empty_table : ℕ → ℕ → ℕ → BlockTable
empty_table across down refs =
    record {
      across = across;
      down = down;
      refs = refs;
      splits = replicate (down * across) 0;
      blocks = replicate (4 * down * (4 * across)) grey;
    }

-- the table with the split of superblock sx of row sy
abbrev pub with_split : BlockTable → ℕ → ℕ → ℕ → BlockTable
with_split t sx sy split = record t { splits = slice_set t.splits (sy * t.across + sx) split }

-- n blocks from this place on are b
unfoldable pub row_filled : List Block → ℕ → Block → ℕ → List Block
row_filled blocks start b zero = blocks
row_filled blocks start b (suc n) = slice_set (row_filled blocks start b n) (start + n) b

-- n rows of that many blocks are b, from column i of row j on
unfoldable pub rows_filled : ℕ → List Block → ℕ → ℕ → ℕ → Block → ℕ → List Block
rows_filled width blocks size i j b zero = blocks
rows_filled width blocks size i j b (suc n) =
    row_filled (rows_filled width blocks size i j b n) ((j + n) * width + i) b size

-- the table with all blocks of a unit b; the first of them is block i of row j
abbrev pub with_unit : BlockTable → ℕ → ℕ → ℕ → Block → BlockTable
with_unit t size i j b = record t { blocks = rows_filled (4 * t.across) t.blocks size i j b size }

-- all blocks are DC blocks of value 0
abbrev pub AllGrey : List Block → Type 0
AllGrey blocks = (k : ℕ) → slice_index_or blocks k grey ≡ grey

-- block i of row j is the first one of a unit of this size
pub record IsFirstOfUnit (t : BlockTable) (size i j : ℕ) : Type 0 where
  pub sx : ℕ
  pub sy : ℕ
  pub u : ℕ
  pub v : ℕ
  pub across : sx < t.across
  pub down : sy < t.down
  pub is : size ≡ unit_size (split_at t sx sy)
  pub some : u < 2 ^ split_at t sx sy
  pub few : v < 2 ^ split_at t sx sy
  pub column : i ≡ 4 * sx + u * size
  pub row : j ≡ 4 * sy + v * size
