-- Samples at positions counted in parts of a sample.
use Rattle.std.specs.Prelude.{◌≡◌, ℕ, ℤ, pos, ◌+◌, ◌-◌, ◌*◌, ◌/◌, ◌^◌, ◌<◌, ◌≤◌, ◌==◌, List, length}
use Rattle.std.specs.Prelude.{slice_index_or, ◌≤ℤ◌, ◌<ℤ◌, ◌+ℤ◌, ◌-ℤ◌, ◌*ℤ◌, if◌then◌else◌}
use Rattle.std.specs.Int.{int_shr}
use Rattle.std.specs.List.{All}
use Rattle.dirac_common.specs.declared.limits.TheConstants.{LARGEST_SIDE}
use Rattle.dirac_common.specs.Table.{Table, clamped_at}
use Rattle.dirac_upconvert.specs.HalfSamples.{IsSample}

-- an upconverted plane: the plane's sizes, and the table of its samples and half samples
pub record Up : Type 0 where
  pub width : ℕ
  pub height : ℕ
  pub table : Table

-- the table of an upconverted plane of these sizes: its samples, and one half sample between any two of them
pub record IsUp (width height : ℕ) (table : Table) : Type 0 where
  pub some_across : 1 ≤ width
  pub most_across : width ≤ LARGEST_SIDE
  pub some_down : 1 ≤ height
  pub most_down : height ≤ LARGEST_SIDE
  pub across : table.width ≡ 2 * width - 1
  pub down : table.height ≡ 2 * height - 1
  pub samples : All IsSample table.values

-- the place of the table at or before a position; each place has 2 ^ bits positions
abbrev pub place_at : ℤ → ℕ → ℤ
place_at position bits = int_shr position bits

-- how far a position lies behind the place at or before it; each place has 2 ^ bits positions
abbrev pub rest_at : ℤ → ℕ → ℤ
rest_at position bits = position -ℤ place_at position bits *ℤ pos (2 ^ bits)

-- a sample times its two weights
abbrev pub product : ℤ → ℤ → ℤ → ℤ
product across down v = down *ℤ (across *ℤ v)

-- the sum of the four samples at places h and h + 1 across and down, each times its two weights:
-- the rest at place h + 1, and what is left of the scale at place h
abbrev pub bilinear : Table → ℕ → ℤ → ℤ → ℤ → ℤ → ℤ
bilinear t scale across down right below =
    (product (pos scale -ℤ right) (pos scale -ℤ below) (clamped_at t across down)
    +ℤ product right (pos scale -ℤ below) (clamped_at t (across +ℤ pos 1) down))
    +ℤ (product (pos scale -ℤ right) below (clamped_at t across (down +ℤ pos 1))
    +ℤ product right below (clamped_at t (across +ℤ pos 1) (down +ℤ pos 1)))

-- a sum divided by 2 ^ bits, to the nearest, halves up
abbrev pub rounded : ℕ → ℤ → ℤ
rounded bits sum = int_shr (sum +ℤ pos (2 ^ bits / 2)) bits

-- the sample at a position of the table that is counted in parts, 2 ^ bits to a place
unfoldable pub part_sample : Table → ℕ → ℤ → ℤ → ℤ
part_sample t bits x y =
    rounded (2 * bits) (bilinear t (2 ^ bits) (place_at x bits) (place_at y bits) (rest_at x bits) (rest_at y bits))

-- the sample at a position counted in 2 ^ precision parts of a sample; whole samples stand at even places
abbrev pub sub_sample : Up → ℕ → ℤ → ℤ → ℤ
sub_sample up precision x y =
    if precision == 0
    then clamped_at up.table (pos 2 *ℤ x) (pos 2 *ℤ y)
    else part_sample up.table (precision - 1) x y

-- how far a position may lie behind its place
pub record IsRest (bits : ℕ) (rest : ℤ) : Type 0 where
  pub least : pos 0 ≤ℤ rest
  pub most : rest <ℤ pos (2 ^ bits)

-- a sum of that many samples
pub record IsWithin (count : ℕ) (sum : ℤ) : Type 0 where
  pub least : pos 0 ≤ℤ (sum +ℤ pos (128 * count))
  pub most : sum ≤ℤ pos (127 * count)

-- two values, each times the weight of its place
abbrev pub mixed : ℕ → ℤ → ℤ → ℤ → ℤ
mixed scale rest a b = (pos scale -ℤ rest) *ℤ a +ℤ rest *ℤ b

-- the sum of four samples, two above and two below, each times its two weights
abbrev pub sum_of_four : ℕ → ℤ → ℤ → ℤ → ℤ → ℤ → ℤ → ℤ
sum_of_four scale right below v00 v10 v01 v11 =
    (product (pos scale -ℤ right) (pos scale -ℤ below) v00 +ℤ product right (pos scale -ℤ below) v10)
    +ℤ (product (pos scale -ℤ right) below v01 +ℤ product right below v11)

-- the samples at every second place of a table's row, from a place on
abbrev pub AreAlternateSamples : Table → ℤ → ℤ → List ℤ → Type 0
AreAlternateSamples t across down out =
    (k : ℕ) → k < length out → slice_index_or out k (pos 0) ≡ clamped_at t (across +ℤ pos (2 * k)) down

-- the samples behind every second place of a row, as far behind it as a position is
abbrev pub AreAlternateSubSamples : Table → ℕ → ℤ → ℤ → ℤ → ℤ → List ℤ → Type 0
AreAlternateSubSamples t bits across down right below out =
    (k : ℕ) → k < length out → slice_index_or out k (pos 0) ≡ rounded (2 * bits)
    (bilinear t (2 ^ bits) (across +ℤ pos (2 * k)) down right below)

-- the sample between those at places p and q of two rows, one above the other
abbrev pub between_sides : ℕ → ℤ → ℤ → List ℤ → List ℤ → ℕ → ℕ → ℤ
between_sides bits right below above under p q =
    rounded (2 * bits) (sum_of_four (2 ^ bits) right below
    (slice_index_or above p (pos 0)) (slice_index_or above q (pos 0))
    (slice_index_or under p (pos 0)) (slice_index_or under q (pos 0)))

-- a list in which from place `first` on that many values were written, and none before it
pub record PutFrom (first count : ℕ) (f : ℕ → ℤ) (before after : List ℤ) : Type 0 where
  pub value : (k : ℕ) → k < count → slice_index_or after (first + k) (pos 0) ≡ f k
  pub kept : (k : ℕ) → k < first → slice_index_or after k (pos 0) ≡ slice_index_or before k (pos 0)
