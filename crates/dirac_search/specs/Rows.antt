-- Sums of absolute differences by the rows of a window.
use Rattle.std.specs.Prelude.{◌≡◌, ℕ, ℤ, pos, ◌+◌, ◌*◌, ◌^◌, ◌<◌, ◌≤◌, ◌+ℤ◌, ◌-ℤ◌, ◌≤ℤ◌, unsigned_abs, List}
use Rattle.std.specs.Prelude.{slice_index}
use Rattle.std.specs.Prelude.{slice_index_or, true}
use Rattle.dirac_common.specs.Table.{Table, clamped_at, clamped_to, table_at}
use Rattle.dirac_common.specs.declared.formats.Vector.{Vector}
use Rattle.dirac_upconvert.specs.SubSamples.{Up, sub_sample}
use Rattle.dirac_costs.specs.Sums.{sum_below}
use Rattle.dirac_costs.specs.Windows.{row_from, values_apart, values_from}
use Rattle.dirac_costs.specs.declared.window.Window.{Window}
use Rattle.dirac_search.specs.declared.whole_sums.Columns.{Columns}

-- a list of the samples of the row of a plane that is nearest to place y
abbrev pub IsRowNearest : Table → ℤ → List ℤ → Type 0
IsRowNearest t y row =
    (x : ℕ) → x < t.width → slice_index_or row x (pos 0) ≡ table_at t x (clamped_to y t.height)

-- the samples of a row of a plane from a position on, each position clamped
abbrev pub clamped_row : Table → ℤ → ℤ → ℕ → ℤ
clamped_row t x y k = clamped_at t (x +ℤ pos k) y

-- the sum of absolute differences of `count` samples of a row of one plane and of a row of another, each from a
-- position on; all positions are clamped
unfoldable pub row_apart : Table → Table → ℤ → ℤ → ℤ → ℤ → ℕ → ℕ
row_apart source reference x y across down count =
    values_apart (clamped_row source x y) (clamped_row reference across down) count

-- the sum of absolute differences of `count` samples of a source, from column x of row y on, and of the whole samples
-- of a reference to which a vector leads from there
abbrev pub whole_row_apart : Table → Table → ℕ → ℕ → Vector → ℕ → ℕ
whole_row_apart source reference x y v count =
    row_apart source reference (pos x) (pos y) (pos x +ℤ v.x) (pos y +ℤ v.y) count

-- at most 16 columns from column x on; where they are inside, one plane has all of them, and the other one all of those
-- to which a vector leads
pub record AreColumns (source reference : Table) (x : ℕ) (v : Vector) (c : Columns) : Type 0 where
  pub at_most_16 : c.count ≤ 16
  pub inside : c.are_inside ≡ true → x + c.count ≤ source.width
  pub left : c.are_inside ≡ true → pos 0 ≤ℤ (pos x +ℤ v.x)
  pub right : c.are_inside ≡ true → ((pos x +ℤ v.x) +ℤ pos c.count) ≤ℤ pos reference.width

-- the samples to which a vector in parts of a sample leads from column x of row y on
abbrev pub sub_row_from : Up → ℕ → ℕ → ℕ → Vector → ℕ → ℤ
sub_row_from up q x y v k =
    sub_sample up q ((pos (2 ^ q * x) +ℤ v.x) +ℤ pos (2 ^ q * k)) (pos (2 ^ q * y) +ℤ v.y)

-- the sum of absolute differences of `count` samples of a source, from column x of row y on, and of the samples of a
-- reference to which a vector in parts of a sample leads from there
unfoldable pub sub_row_apart : Table → Up → ℕ → ℕ → ℕ → Vector → ℕ → ℕ
sub_row_apart source up q x y v count = values_apart (row_from source x y) (sub_row_from up q x y v) count

-- the sum of absolute differences of four rows of `count` samples: of one plane from column x of row y on, of another
-- from column `across` of row y + `part` on
abbrev pub four_rows_apart : Table → Table → ℕ → ℕ → ℕ → ℤ → ℕ → ℕ
four_rows_apart s t x across y part count =
    let row : ℕ → ℕ = λ r. row_apart s t (pos x) (pos (y + r)) (pos across) (pos (y + r) +ℤ part) count in
    ((row 0 + row 1) + row 2) + row 3

-- the sum of absolute differences of four rows of a plane, from row y on, and of a list of four rows of eight samples
abbrev pub four_rows_from : Table → ℕ → ℕ → List ℤ → ℕ
four_rows_from s x y samples =
    let row : ℕ → ℕ = λ r. values_apart (row_from s x (y + r)) (values_from samples (8 * r)) 8 in
    ((row 0 + row 1) + row 2) + row 3

-- the sum of absolute differences of four rows of eight samples of a source, from column x of row y on, and of the
-- samples of a reference to which a vector in parts of a sample leads from there
abbrev pub four_sub_rows_apart : Table → Up → ℕ → ℕ → ℕ → Vector → ℕ
four_sub_rows_apart s up q x y v =
    let row : ℕ → ℕ = λ r. sub_row_apart s up q x (y + r) v 8 in ((row 0 + row 1) + row 2) + row 3

-- the sum of absolute differences of the first rows of a window in a source and of the whole samples of a reference to
-- which a vector leads from there
abbrev pub whole_rows : Table → Table → Window → Vector → ℕ → ℕ
whole_rows source reference w v rows =
    sum_below (λ r. whole_row_apart source reference w.x (w.y + r) v w.columns) rows

-- the sum of absolute differences of the first rows of a window in a source and of the samples of a reference to which
-- a vector in parts of a sample leads from there
abbrev pub sub_rows : Table → Up → ℕ → Window → Vector → ℕ → ℕ
sub_rows source up q w v rows = sum_below (λ r. sub_row_apart source up q w.x (w.y + r) v w.columns) rows

-- how far two values are apart, k places behind two places
unfoldable pub apart_at : List ℤ → ℕ → List ℤ → ℕ → ℕ → ℕ
apart_at a first b second k = unsigned_abs (values_from a first k -ℤ values_from b second k)

-- to each of eight sums a number is added
abbrev pub AddsEight : List ℕ → List ℕ → (ℕ → ℕ) → Type 0
AddsEight before after f = (k : ℕ) → k < 8 → slice_index after k ≡ slice_index before k + f k
