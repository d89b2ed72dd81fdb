-- Some rows of a plane as one list, and what its blocks add to them.
use Rattle.std.specs.Prelude.{◌≡◌, ℕ, ℤ, pos, ◌+◌, ◌-◌, ◌*◌, ◌/◌, ◌%◌, ◌<◌, ◌≤◌, List, length, slice_index}
use Rattle.std.specs.Prelude.{slice_index_or, vec_len, max, min}
use Rattle.std.specs.List.{All}
use Rattle.dirac_block_table.specs.Tables.{block_at}
use Rattle.dirac_obmc.specs.declared.room.BlockRoom.{BlockRoom}
use Rattle.dirac_obmc.specs.declared.rows.Lines.{Lines}
use Rattle.dirac_obmc.specs.declared.rows.Part.{Part}
use Rattle.dirac_obmc.specs.declared.rows.Span.{Span}
use Rattle.dirac_obmc.specs.Compensation.{Compensation, blocks_across, blocks_down, predicts, term, signed_total}
use Rattle.dirac_obmc.specs.Compensation.{x_length}
use Rattle.dirac_obmc.specs.Compensation.{x_separation, y_length, y_separation}
use Rattle.dirac_obmc.specs.Directions.{IsDown, IsWeights}
use Rattle.dirac_obmc.specs.Weights.{block_margin, share, sum_below}

-- what block i of row j adds at place p of the rows of a plane from row `first` on
abbrev pub added_at : Compensation → ℕ → ℕ → ℕ → ℕ → ℤ
added_at m first j i p = term m (p % m.width) (first + p / m.width) j i

-- the blocks of a plane from top to bottom, with their weights, and some of its rows
pub record IsLines (m : Compensation) (l : Lines) : Type 0 where
  pub direction : IsDown m l.blocks
  pub weights : IsWeights (blocks_down m) (y_length m) (y_separation m) l.weights.now
  pub some : l.first < l.end
  pub inside : l.end ≤ m.height

-- the places from `least` to `most - 1` that a block holds, and where their weights stand
pub record IsSpan (block count len separation least most : ℕ) (s : Span) : Type 0 where
  pub start_is : s.start ≡ max (block * separation - (len - separation) / 2) least
  pub end_is : s.end ≡ min (block * separation + len - (len - separation) / 2) most
  pub from : least ≤ s.start
  pub to : s.end ≤ most
  pub within_block : s.end - s.start ≤ len
  pub before : (x : ℕ) → least ≤ x → x < s.start → share block count len separation x ≡ 0
  pub behind : (x : ℕ) → s.end ≤ x → x < most → share block count len separation x ≡ 0
  pub listed : s.start < s.end → s.weights + (s.end - s.start) ≤ count * len
  pub weight : (ws : List ℕ) (k : ℕ) → IsWeights count len separation ws → k < s.end - s.start
      → slice_index ws (s.weights + k) ≡ share block count len separation (s.start + k)

-- what `count` blocks from block i on of row j add together at column x of row y
abbrev pub run_term : Compensation → ℕ → ℕ → ℕ → ℕ → ℕ → ℤ
run_term m x y j i count = signed_total (λ k. term m x y j (i + k)) count

-- what `count` blocks from block i on of row j add together at place p of the rows of a plane from row `first` on
abbrev pub run_added_at : Compensation → ℕ → ℕ → ℕ → ℕ → ℕ → ℤ
run_added_at m first j i count p = run_term m (p % m.width) (first + p / m.width) j i count

-- the weight that `many` blocks from block i on have together at place x, where `count` blocks stand side by side
abbrev pub run_share : ℕ → ℕ → ℕ → ℕ → ℕ → ℕ → ℕ
run_share count len separation i many x = sum_below (λ k. share (i + k) count len separation x) many

-- `count` blocks from block i on of row j are all alike, and have at most 64 columns together
pub record IsRun (m : Compensation) (i count j : ℕ) : Type 0 where
  pub some : 1 ≤ count
  pub across : i + count ≤ blocks_across m
  pub down : j < blocks_down m
  pub same : (k : ℕ) → k < count → block_at m.blocks (i + k) j ≡ block_at m.blocks i j
  pub fits : (count - 1) * x_separation m + x_length m ≤ 64

-- the columns from `left` to `right` - 1 of `n` blocks from block i on: below `single` the first of them is the only
-- one, from `last` on the last is, and between no other block holds a column
pub record AreRunParts (len separation i n left right single last : ℕ) : Type 0 where
  pub from : left ≤ single
  pub ordered : single ≤ last
  pub to : last ≤ right
  pub begun : i * separation ≤ left + block_margin len separation
  pub first : (x : ℕ) → x < single → x + block_margin len separation < (i + 1) * separation
  pub single_fits : single + block_margin len separation ≤ i * separation + len
  pub between_from : (x : ℕ) → single ≤ x → x < last → (i + 1) * separation ≤ x + block_margin len separation
  pub between_to : (x : ℕ) → single ≤ x → x < last → x < (i + n - 1) * separation + block_margin len separation
  pub behind : (x : ℕ) → last ≤ x → x < right → (i + n - 1) * separation + block_margin len separation ≤ x
  pub last_fits : last + block_margin len separation - (i + n - 1) * separation + (right - last) ≤ len

-- the places from `left` to `right` - 1, which alone of a plane's `size` places `many` blocks from block i on hold, and
-- the weights that those blocks have there together, 0 behind them
pub record AreRunWeights (count len separation size i many left right : ℕ) (ws : List ℕ) : Type 0 where
  pub to : right ≤ size
  pub before : (x : ℕ) → x < left → run_share count len separation i many x ≡ 0
  pub behind : (x : ℕ) → right ≤ x → x < size → run_share count len separation i many x ≡ 0
  pub enough : right - left ≤ length ws
  pub weight : (k : ℕ) → k < right - left → slice_index ws k ≡ run_share count len separation i many (left + k)
  pub past : (k : ℕ) → right - left ≤ k → slice_index ws k ≡ 0
  pub small : All (λ w. w ≤ 8) ws

-- what a run of blocks predicts in some columns and rows
pub record IsPartOfRun (m : Compensation) (first end : ℕ) (p : Part) : Type 0 where
  pub run : IsRun m p.run.i p.run.count p.run.j
  pub columns : AreRunWeights (blocks_across m) (x_length m) (x_separation m) m.width p.run.i p.run.count p.left p.right
      p.weights.now
  pub rows : IsSpan p.run.j (blocks_down m) (y_length m) (y_separation m) first end p.down
  pub some_columns : p.left < p.right
  pub some_rows : p.down.start < p.down.end
  pub fits : p.right - p.left ≤ p.width
  pub listed : p.width ≤ length p.weights.now
  pub whole : (p.down.end - p.down.start) * p.width ≤ length p.values.now
  pub values : (r k : ℕ) → r < p.down.end - p.down.start → k < p.width → slice_index_or p.values.now (r * p.width + k)
      (pos 0) ≡ predicts m (block_at m.blocks p.run.i p.run.j) (p.left + k) (p.down.start + r)

-- where a plane has rows of that width, each value of a part, those behind its columns too, has a place among so many
-- sums of its rows from row `first` on
abbrev pub HasAllSums : ℕ → ℕ → Part → ℕ → Type 0
HasAllSums width first p sums =
    (y : ℕ) → y < p.down.end → (y - first) * width + p.left + p.width ≤ sums

-- room for blocks of that many rows
pub record IsRoomForRows (rows : ℕ) (r : BlockRoom) : Type 0 where
  pub few_rows : rows ≤ 64
  pub first : vec_len r.first ≡ 64 * rows
  pub second : vec_len r.second ≡ 64 * rows
  pub values : vec_len r.values ≡ 64 * rows
  pub weights : vec_len r.weights ≡ 64

-- room that holds what block i of row j predicts in that many rows from a column and a row on, `width` in each
abbrev pub AreValues : Compensation → ℕ → ℕ → ℕ → ℕ → ℕ → ℕ → BlockRoom → Type 0
AreValues m i j x y rows width room =
    (r k : ℕ) → r < rows → k < width → slice_index_or room.values.items (r * width + k) (pos 0)
    ≡ predicts m (block_at m.blocks i j) (x + k) (y + r)
