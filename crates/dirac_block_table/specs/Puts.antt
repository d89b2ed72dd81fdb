-- What a block table is once a superblock has been put into it.
use Rattle.std.specs.Prelude.{◌≡◌, ℕ, ◌+◌, ◌*◌, ◌/◌, ◌<◌, ◌≤◌, List, length, slice_index_or}
use Rattle.dirac_block_table.specs.declared.block.Block.{Block}
use Rattle.dirac_block_table.specs.Tables.{BlockTable, grey, split_at, block_in, unit_size, unit_of}

-- the first n of four blocks from `start` on are those of their units, whose row begins at `from`; all else stays
pub record RowPut (start split : ℕ) (units : List Block) (from n : ℕ) (old new : List Block) : Type 0 where
  pub len : length new ≡ length old
  pub done : (i : ℕ) → i < n → slice_index_or new (start + i) grey
      ≡ slice_index_or units (from + i / unit_size split) grey
  pub before : (k : ℕ) → k < start → slice_index_or new k grey ≡ slice_index_or old k grey
  pub after : (k : ℕ) → start + n ≤ k → slice_index_or new k grey ≡ slice_index_or old k grey

-- the first n rows of four by four blocks from column `left` and row `top` on are those of their units; all else stays
pub record RowsPut (width left top split : ℕ) (units : List Block) (n : ℕ) (old new : List Block) : Type 0 where
  pub len : length new ≡ length old
  pub done : (i j : ℕ) → i < 4 → j < n → slice_index_or new ((top + j) * width + (left + i)) grey
      ≡ slice_index_or units (unit_of split i j) grey
  pub before : (x y : ℕ) → x < width → x < left → slice_index_or new (y * width + x) grey
      ≡ slice_index_or old (y * width + x) grey
  pub after : (x y : ℕ) → x < width → left + 4 ≤ x → slice_index_or new (y * width + x) grey
      ≡ slice_index_or old (y * width + x) grey
  pub over : (x y : ℕ) → x < width → y < top → slice_index_or new (y * width + x) grey
      ≡ slice_index_or old (y * width + x) grey
  pub under : (x y : ℕ) → x < width → top + n ≤ y → slice_index_or new (y * width + x) grey
      ≡ slice_index_or old (y * width + x) grey

-- superblock sx of row sy has this split, and its blocks are those of their units; all else stays
pub record IsPut (old : BlockTable) (sx sy split : ℕ) (units : List Block) (new : BlockTable) : Type 0 where
  pub across : new.across ≡ old.across
  pub down : new.down ≡ old.down
  pub refs : new.refs ≡ old.refs
  pub chosen : split_at new sx sy ≡ split
  pub other_splits : (x y : ℕ) → x < old.across → y < old.down → (x ≡ sx → y ≡ sy → ⊥) → split_at new x y
      ≡ split_at old x y
  pub blocks : (i j : ℕ) → i < 4 → j < 4 → block_in new sx sy i j ≡ slice_index_or units (unit_of split i j) grey
  pub other_blocks : (x y i j : ℕ) → x < old.across → y < old.down → i < 4 → j < 4 → (x ≡ sx → y ≡ sy → ⊥)
      → block_in new x y i j ≡ block_in old x y i j
