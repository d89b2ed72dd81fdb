-- How the blocks of a plane stand along one of its directions, and what its predictions are made from.
use Rattle.std.specs.Prelude.{◌≡◌, ℕ, ◌+◌, ◌*◌, ◌<◌, ◌≤◌, List, length, slice_index}
use Rattle.std.specs.List.{All}
use Rattle.std.specs.Option.{ForSome}
use Rattle.dirac_common.specs.declared.limits.TheConstants.{LARGEST_SIDE}
use Rattle.dirac_block_table.specs.Tables.{IsBlockTable}
use Rattle.dirac_upconvert.specs.HalfSamples.{IsSample}
use Rattle.dirac_obmc.specs.declared.rows.Columns.{Columns}
use Rattle.dirac_obmc.specs.declared.direction.Direction.{Direction}
use Rattle.dirac_obmc.specs.Compensation.{Compensation, blocks_across, blocks_down, x_length, x_separation, y_length}
use Rattle.dirac_obmc.specs.Compensation.{y_separation}
use Rattle.dirac_obmc.specs.Weights.{IsOverlap, weight_at}

-- blocks of this number, length and separation, which cover that many places
pub record IsDirection (count length separation size : ℕ) (d : Direction) : Type 0 where
  pub count_is : d.count ≡ count
  pub length_is : d.length ≡ length
  pub separation_is : d.separation ≡ separation
  pub overlap : IsOverlap d.length d.separation
  pub covers : size ≤ d.count * d.separation
  pub few : d.count ≤ LARGEST_SIDE

-- the blocks of a plane from left to right
abbrev pub IsAcross : Compensation → Direction → Type 0
IsAcross m d = IsDirection (blocks_across m) (x_length m) (x_separation m) m.width d

-- the blocks of a plane from left to right: how many stand there, how long they are, how far apart
abbrev pub columns_of : Compensation → Direction
columns_of m = record { count = blocks_across m; length = x_length m; separation = x_separation m }

-- the blocks of a plane from top to bottom
abbrev pub IsDown : Compensation → Direction → Type 0
IsDown m d = IsDirection (blocks_down m) (y_length m) (y_separation m) m.height d

-- the weights of all blocks of a direction, block after block
pub record IsWeights (count len separation : ℕ) (ws : List ℕ) : Type 0 where
  pub whole : length ws ≡ count * len
  pub each : (block t : ℕ) → block < count → t < len → slice_index ws (block * len + t)
      ≡ weight_at block count len separation t
  pub small : All (λ w. w ≤ 8) ws

-- the blocks of a plane from left to right, with their weights
pub record IsColumns (m : Compensation) (c : Columns) : Type 0 where
  pub direction : IsAcross m c.blocks
  pub weights : IsWeights (blocks_across m) (x_length m) (x_separation m) c.weights.now

-- what block tables and upconverted planes always keep
pub record IsSoundCompensation (m : Compensation) : Type 0 where
  pub blocks : IsBlockTable m.blocks
  pub first : All IsSample m.up1.table.values
  pub second : ForSome m.up2 (λ u. All IsSample u.table.values)
