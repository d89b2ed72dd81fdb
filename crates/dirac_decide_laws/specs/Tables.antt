-- A block table whose splits and blocks cost least, in words.
use Rattle.std.specs.Prelude.{◌≡◌, ℕ, ◌<◌, true, Some}
use Rattle.dirac_block_table.specs.declared.block.Block.{Block}
use Rattle.dirac_block_table.specs.Tables.{BlockTable, block_in, split_at, unit_of}
use Rattle.dirac_search_laws.specs.Least.{IsFirstOfLeastCost}
use Rattle.dirac_decide.specs.Deciding.{Deciding, IsDeciding, View}
use Rattle.dirac_decide.specs.Splits.{decided, split_cost, unit_in}
use Rattle.dirac_decide.specs.Units.{decided_blocks, vector_cost}
use Rattle.dirac_decide.specs.declared.choice.Choice.{Choice}
use Rattle.dirac_decide.specs.declared.prediction_unit.PredictionUnit.{PredictionUnit}
use Rattle.dirac_inside_laws.specs.Kept.{VectorsKeepInside}
use Rattle.dirac_decide_laws.specs.Choices.{cost_of_mode, modes_of, splits, taken_vectors}

-- the unit of block i of row j of superblock sx of row sy in a table
abbrev pub unit_at : BlockTable → ℕ → ℕ → ℕ → ℕ → PredictionUnit
unit_at t sx sy i j = unit_in (split_at t sx sy) sx sy (unit_of (split_at t sx sy) i j)

-- a block is what the first mode of least cost of its unit has
pub record IsOfLeastMode (d : Deciding) (u : PredictionUnit) (b : Block) : Type 0 where
  pub mode : Choice
  pub least : IsFirstOfLeastCost cost_of_mode (modes_of d u) mode
  pub same : b ≡ mode.block

-- a block's vectors cost least among those that may be taken for its unit, each in its reference
pub record HasLeastVectors (d : Deciding) (u : PredictionUnit) (b : Block) : Type 0 where
  pub first : b.ref1 ≡ true → IsFirstOfLeastCost (vector_cost d d.first u) (taken_vectors d d.first u) b.v1
  pub second : (r : View) → d.second ≡ Some r → b.ref2 ≡ true
      → IsFirstOfLeastCost (vector_cost d r u) (taken_vectors d r u) b.v2

-- each superblock has the first split of least cost, and each block what the first mode of least cost of its unit has,
-- with vectors of least cost
pub record IsLeastTable (d : Deciding) (t : BlockTable) : Type 0 where
  pub splits : (sx sy : ℕ) → sx < d.across → sy < d.down
      → IsFirstOfLeastCost (split_cost d sx sy) splits (split_at t sx sy)
  pub blocks : (sx sy i j : ℕ) → sx < d.across → sy < d.down → i < 4 → j < 4
      → IsOfLeastMode d (unit_at t sx sy i j) (block_in t sx sy i j)
  pub vectors : (sx sy i j : ℕ) → sx < d.across → sy < d.down → i < 4 → j < 4
      → HasLeastVectors d (unit_at t sx sy i j) (block_in t sx sy i j)

-- the table that is decided is such a one
abbrev pub TablesAreLeast : Type 0
TablesAreLeast = (d : Deciding) → IsLeastTable d (decided d)

-- where streams are to be shown alike, its vectors keep inside
abbrev pub TablesKeepInside : Type 0
TablesKeepInside =
    (d : Deciding) → IsDeciding d → (d.alike ≡ 0 → ⊥) → VectorsKeepInside (decided_blocks d) d.precision (decided d)
