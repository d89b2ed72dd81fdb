-- Samples that are compared in bytes.
use Rattle.std.specs.Prelude.{◌≡◌, ℕ, ℤ, pos, ◌+◌, ◌-◌, ◌*◌, ◌/◌, ◌%◌, ◌^◌, ◌<◌, ◌≤◌, ◌+ℤ◌, ◌-ℤ◌, List}
use Rattle.std.specs.Prelude.{unsigned_abs, slice_index_or, Option, Some, None}
use Rattle.dirac_common.specs.Table.{Table}
use Rattle.dirac_upconvert.specs.SubSamples.{Up, place_at, rest_at}
use Rattle.dirac_costs.specs.Sums.{sum_below}
use Rattle.dirac_costs.specs.Windows.{values_from}
use Rattle.dirac_pyramid.specs.Pyramid.{mean_of_four, no_plane}
use Rattle.dirac_search.specs.declared.byte_sums.Corners.{Corners}
use Rattle.dirac_search.specs.declared.byte_sums.Strided.{Strided}
use Rattle.dirac_search.specs.declared.bytes.Bytes.{Bytes}
use Rattle.dirac_search.specs.declared.sub_bytes.Spot.{Spot}
use Rattle.dirac_search.specs.declared.tried.Tried.{Tried}
use Rattle.dirac_search.specs.Given.{Searched}
use Rattle.dirac_search.specs.Rows.{apart_at}

-- the bytes are the samples of a plane
abbrev pub AreBytes : Table → Bytes → Type 0
AreBytes t b = b.source.items ≡ t.values

-- the bytes are the samples of the source of a search, on level 0
abbrev pub AreBytesOf : Searched → Bytes → Type 0
AreBytesOf g b = AreBytes (slice_index_or g.source 0 no_plane) b

-- where bytes are given, they are the samples of the source of a search
abbrev pub AreGiven : Searched → Option Bytes → Type 0
AreGiven g None = Unit {0}
AreGiven g (Some b) = AreBytesOf g b

-- the place in a list at which row r begins, where rows are a step apart
abbrev pub row_at : Strided → ℕ → ℕ
row_at s r = s.first + r * s.step

-- so many rows of eight values lie in a list of that length
abbrev pub AreInside : Strided → ℕ → ℕ → Type 0
AreInside s rows len = (r : ℕ) → r < rows → row_at s r + 8 ≤ len

-- the sum of absolute differences of row r of two lists
abbrev pub strided_rows : List ℤ → Strided → List ℤ → Strided → ℕ → ℕ
strided_rows a left b right r = sum_below (apart_at a (row_at left r) b (row_at right r)) 8

-- the mean of the values k places behind four corners
abbrev pub mean_behind : List ℤ → Corners → ℕ → ℤ
mean_behind b c k =
    mean_of_four
    (values_from b c.left k)
    (values_from b c.right k)
    (values_from b (c.left + c.under) k)
    (values_from b (c.right + c.under) k)

-- how far a value k places behind a place is from the mean of the values k places behind four corners
unfoldable pub apart_from_mean : List ℤ → ℕ → List ℤ → Corners → ℕ → ℕ
apart_from_mean a first b c k = unsigned_abs (values_from a first k -ℤ mean_behind b c k)

-- the four corners of row r, where rows are `step` places apart
abbrev pub corners_at : Corners → ℕ → ℕ → Corners
corners_at c step r = record { left = c.left + r * step; right = c.right + r * step; under = c.under }

-- the sum of absolute differences of row r of a list and of the means of another
abbrev pub strided_means : List ℤ → Strided → List ℤ → Corners → ℕ → ℕ → ℕ
strided_means a left b c step r = sum_below (apart_from_mean a (row_at left r) b (corners_at c step r)) 8

-- the place at or before a position that is counted in halves or quarters of a sample, and how far it lies behind
pub record HasSpot (precision : ℕ) (position : ℤ) (s : Spot) : Type 0 where
  pub place : place_at position (precision - 1) ≡ pos s.place
  pub rest : rest_at position (precision - 1) ≡ pos s.rest
  pub near : s.rest ≤ 1

-- the place at or before the position to which a component of a vector leads from a place of a plane, and how far the
-- position lies behind it
abbrev pub IsSpot : ℕ → ℕ → ℤ → Spot → Type 0
IsSpot precision place component s = HasSpot precision (pos (2 ^ precision * place) +ℤ component) s

-- a spot to which a component of a vector leads from a place of a plane: `count` samples, a whole sample apart from the
-- spot on, lie before `end`
pub record IsSpotBefore (precision place : ℕ) (component : ℤ) (count end : ℕ) (s : Spot) : Type 0 where
  pub spot : IsSpot precision place component s
  pub inside : s.place + 2 * count + s.rest ≤ end

-- a window of eight columns that a source has, and spots of it of which the lines have all samples
pub record HasAllSamplesOfWindow (source : Table) (up : Up) (precision : ℕ) (x y : Spot) (t : Tried) : Type 0 where
  pub columns : t.window.columns ≡ 8
  pub source_right : t.window.x + 8 ≤ source.width
  pub source_bottom : t.window.y + t.window.rows ≤ source.height
  pub across : IsSpotBefore precision t.window.x t.v.x 8 (2 * up.width) x
  pub down : IsSpotBefore precision t.window.y t.v.y t.window.rows (2 * up.height) y

-- where column x of row y of the samples and half samples stands among lines of so many places
abbrev pub start_of : ℕ → ℕ → ℕ → ℕ
start_of places x y = (2 * y + x % 2) * places + x / 2
