-- The splits of a superblock, what they cost, and the table of the best.
use Rattle.std.specs.Prelude.{◌≡◌, ℕ, ◌+◌, ◌*◌, ◌/◌, ◌%◌, ◌^◌, ◌<◌, ◌⊎◌, List, map, slice_index_or, Option}
use Rattle.std.specs.List.{range_with_len}
use Rattle.dirac_block_table.specs.declared.block.Block.{Block}
use Rattle.dirac_block_table.specs.Tables.{BlockTable, block_in, grey, split_at, unit_of, unit_size}
use Rattle.dirac_costs.specs.Least.{first_least_to}
use Rattle.dirac_costs.specs.Sums.{sum_below}
use Rattle.dirac_types.specs.declared.settings.Settings.{Settings}
use Rattle.dirac_common.specs.declared.picture.Picture.{Picture}
use Rattle.dirac_decide.specs.Deciding.{Deciding, View, deciding}
use Rattle.dirac_decide.specs.Modes.{choice_of, count_of_references}
use Rattle.dirac_decide.specs.declared.prediction_unit.PredictionUnit.{PredictionUnit}

-- unit k, by rows, of superblock sx of row sy, where it has this split
abbrev pub unit_in : ℕ → ℕ → ℕ → ℕ → PredictionUnit
unit_in split sx sy k = record {
  i = 4 * sx + k % 2 ^ split * unit_size split;
  j = 4 * sy + k / 2 ^ split * unit_size split;
  size = unit_size split;
}

-- what a split costs: all its units
unfoldable pub split_cost : Deciding → ℕ → ℕ → ℕ → ℕ
split_cost d sx sy split = sum_below (λ k. (choice_of d (unit_in split sx sy k)).cost) (4 ^ split)

-- the split of least cost, the lowest at a tie
unfoldable pub best_split : Deciding → ℕ → ℕ → ℕ
best_split d sx sy = first_least_to (split_cost d sx sy) 2

-- block i of row j of a superblock: that of its unit
abbrev pub best_block : Deciding → ℕ → ℕ → ℕ → ℕ → Block
best_block d sx sy i j =
    let split = best_split d sx sy in (choice_of d (unit_in split sx sy (unit_of split i j))).block

-- the table of the best splits and blocks
pub record IsDecided (d : Deciding) (t : BlockTable) : Type 0 where
  pub across : t.across ≡ d.across
  pub down : t.down ≡ d.down
  pub refs : t.refs ≡ count_of_references d.second
  pub splits : (x y : ℕ) → x < d.across → y < d.down → split_at t x y ≡ best_split d x y
  pub blocks : (x y i j : ℕ) → x < d.across → y < d.down → i < 4 → j < 4
      → block_in t x y i j ≡ best_block d x y i j

-- the first n units of a superblock with this split have their blocks of least cost
pub record UnitsChosen (d : Deciding) (sx sy split n : ℕ) (units : List Block) : Type 0 where
  pub each : (k : ℕ) → k < n → slice_index_or units k grey ≡ (choice_of d (unit_in split sx sy k)).block

-- superblock sx of row sy has its best split and blocks; all else stays
pub record SuperblockDecided (d : Deciding) (sx sy : ℕ) (old new : BlockTable) : Type 0 where
  pub across : new.across ≡ old.across
  pub down : new.down ≡ old.down
  pub refs : new.refs ≡ old.refs
  pub split : split_at new sx sy ≡ best_split d sx sy
  pub blocks : (i j : ℕ) → i < 4 → j < 4 → block_in new sx sy i j ≡ best_block d sx sy i j
  pub other_splits : (x y : ℕ) → x < old.across → y < old.down → (x ≡ sx → y ≡ sy → ⊥)
      → split_at new x y ≡ split_at old x y
  pub other_blocks : (x y i j : ℕ) → x < old.across → y < old.down → i < 4 → j < 4 → (x ≡ sx → y ≡ sy → ⊥)
      → block_in new x y i j ≡ block_in old x y i j

-- superblock x of row y comes before superblock sx of row sy, by rows
abbrev pub IsBefore : ℕ → ℕ → ℕ → ℕ → Type 0
IsBefore x y sx sy = (y < sy) ⊎ ((y ≡ sy) × (x < sx))

-- the superblocks before superblock sx of row sy have their best splits and blocks
pub record DecidedTo (d : Deciding) (sx sy : ℕ) (t : BlockTable) : Type 0 where
  pub across : t.across ≡ d.across
  pub down : t.down ≡ d.down
  pub refs : t.refs ≡ count_of_references d.second
  pub splits : (x y : ℕ) → x < d.across → y < d.down → IsBefore x y sx sy → split_at t x y ≡ best_split d x y
  pub blocks : (x y i j : ℕ) → x < d.across → y < d.down → i < 4 → j < 4 → IsBefore x y sx sy
      → block_in t x y i j ≡ best_block d x y i j

-- block i of row j of the picture
abbrev pub best_block_at : Deciding → ℕ → ℕ → Block
best_block_at d i j = best_block d (i / 4) (j / 4) (i % 4) (j % 4)

-- the split of superblock p, by rows
abbrev pub best_split_by_rows : Deciding → ℕ → ℕ
best_split_by_rows d p = best_split d (p % d.across) (p / d.across)

-- block p of the picture, by rows
abbrev pub block_by_rows : Deciding → ℕ → Block
block_by_rows d p = best_block_at d (p % (4 * d.across)) (p / (4 * d.across))

-- the table of the best splits and blocks, as a value
unfoldable pub decided : Deciding → BlockTable
decided d = record {
  across = d.across;
  down = d.down;
  refs = count_of_references d.second;
  splits = map (best_split_by_rows d) (range_with_len 0 (d.down * d.across));
  blocks = map (block_by_rows d) (range_with_len 0 (4 * d.down * (4 * d.across)));
}

-- the table that is decided by the settings, from a picture and one reference or two
abbrev pub decided_by : Settings → Picture → View → Option View → BlockTable
decided_by s p first second = decided (deciding s p first second)
