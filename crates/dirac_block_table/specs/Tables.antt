-- Block tables as contracts see them, and what every one of them keeps.
use Rattle.std.specs.Prelude.{◌≡◌, ℕ, pos, ◌+◌, ◌*◌, ◌/◌, ◌^◌, ◌<◌, ◌≤◌, true, false, ◌||◌, List, length}
use Rattle.std.specs.Prelude.{slice_index_or}
use Rattle.std.specs.List.{All}
use Rattle.dirac_common.specs.declared.limits.TheConstants.{MOST_SUPERBLOCKS}
use Rattle.dirac_common.specs.declared.formats.Vector.{Vector}
use Rattle.dirac_vectors.specs.Neighbours.{IsShort}
use Rattle.dirac_vectors.specs.Predictions.{IsShortVector}
use Rattle.dirac_block_table.specs.declared.block.Block.{Block}

-- superblocks across and down, references, splits of superblocks by rows, and blocks by rows
pub record BlockTable : Type 0 where
  pub across : ℕ
  pub down : ℕ
  pub refs : ℕ
  pub splits : List ℕ
  pub blocks : List Block

-- the vector of a reference that isn't used
abbrev pub no_vector : Vector
no_vector = record { x = pos 0; y = pos 0 }

-- a DC block of value 0
abbrev pub grey : Block
grey = record { ref1 = false; ref2 = false; v1 = no_vector; v2 = no_vector; dc_y = pos 0; dc_u = pos 0; dc_v = pos 0 }

-- the split of superblock sx of row sy
abbrev pub split_at : BlockTable → ℕ → ℕ → ℕ
split_at t sx sy = slice_index_or t.splits (sy * t.across + sx) 0

-- block i of row j
abbrev pub block_at : BlockTable → ℕ → ℕ → Block
block_at t i j = slice_index_or t.blocks (j * (4 * t.across) + i) grey

-- block i of row j of a superblock
abbrev pub block_in : BlockTable → ℕ → ℕ → ℕ → ℕ → Block
block_in t sx sy i j = block_at t (4 * sx + i) (4 * sy + j)

-- how many blocks a unit has across and down: a superblock of split s has 2 ^ s units across and down
abbrev pub unit_size : ℕ → ℕ
unit_size split = 4 / 2 ^ split

-- the first of a unit's columns or rows, from one of them, both counted in the superblock
abbrev pub first_in_unit : ℕ → ℕ → ℕ
first_in_unit split i = i / unit_size split * unit_size split

-- the number of a block's unit in its superblock, units by rows
abbrev pub unit_of : ℕ → ℕ → ℕ → ℕ
unit_of split i j = j / unit_size split * 2 ^ split + i / unit_size split

-- a block of a picture with that many references: values of 16 bits, and 0 where a value isn't used
pub record IsBlock (refs : ℕ) (b : Block) : Type 0 where
  pub second : refs ≡ 1 → b.ref2 ≡ false
  pub v1 : IsShortVector b.v1
  pub v2 : IsShortVector b.v2
  pub dc_y : IsShort b.dc_y
  pub dc_u : IsShort b.dc_u
  pub dc_v : IsShort b.dc_v
  pub no_v1 : b.ref1 ≡ false → b.v1 ≡ no_vector
  pub no_v2 : b.ref2 ≡ false → b.v2 ≡ no_vector
  pub no_dc : (b.ref1 || b.ref2) ≡ true → (b.dc_y ≡ pos 0) × (b.dc_u ≡ pos 0) × (b.dc_v ≡ pos 0)

-- the sizes of a block table, in superblocks, and its number of references
pub record IsTableSize (across down refs : ℕ) : Type 0 where
  pub some_across : 1 ≤ across
  pub most_across : across ≤ MOST_SUPERBLOCKS
  pub some_down : 1 ≤ down
  pub most_down : down ≤ MOST_SUPERBLOCKS
  pub some_refs : 1 ≤ refs
  pub most_refs : refs ≤ 2

-- what every block table keeps
pub record IsBlockTable (t : BlockTable) : Type 0 where
  pub size : IsTableSize t.across t.down t.refs
  pub splits_len : length t.splits ≡ t.down * t.across
  pub blocks_len : length t.blocks ≡ 4 * t.down * (4 * t.across)
  pub splits : All (λ s. s ≤ 2) t.splits
  pub blocks : All (IsBlock t.refs) t.blocks
  pub units : (sx sy i j : ℕ) → sx < t.across → sy < t.down → i < 4 → j < 4
      → block_in t sx sy i j
      ≡ block_in t sx sy (first_in_unit (split_at t sx sy) i) (first_in_unit (split_at t sx sy) j)
