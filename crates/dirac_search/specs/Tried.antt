-- A vector that is tried for a window, and the sums that it comes to.
use Rattle.std.specs.Prelude.{◌≡◌, ℕ, pos, ◌+◌, ◌%◌, ◌^◌, ◌≤◌, ◌+ℤ◌, ◌≤ℤ◌}
use Rattle.dirac_common.specs.Table.{Table}
use Rattle.dirac_upconvert.specs.SubSamples.{Up}
use Rattle.dirac_search.specs.declared.stage.Stage.{Stage}
use Rattle.dirac_search.specs.declared.tried.Tried.{Tried}
use Rattle.dirac_search.specs.Candidates.{IsWithinReach}
use Rattle.dirac_search.specs.Costs.{IsBlockWindow, distortion}
use Rattle.dirac_search.specs.Given.{Searched}
use Rattle.dirac_search.specs.Rows.{sub_rows, whole_rows}

-- a vector that is tried for a window of the search: before its differences are summed it costs no more than a vector's
-- bits can cost
pub record IsTried (t : Tried) : Type 0 where
  pub window : IsBlockWindow t.window
  pub v : IsWithinReach (2 ^ 24) t.v
  pub at_most_66300 : t.first ≤ 66300

-- the source has all columns of a tried vector's window, and the reference all columns to which the vector leads
pub record HasColumns (source reference : Table) (t : Tried) : Type 0 where
  pub x : t.window.x + t.window.columns ≤ source.width
  pub left : pos 0 ≤ℤ (pos t.window.x +ℤ t.v.x)
  pub right : ((pos t.window.x +ℤ t.v.x) +ℤ pos t.window.columns) ≤ℤ pos reference.width

-- the window of a tried vector has fours of rows of eight samples; the source has all rows of the window, and the
-- reference all rows to which the vector leads
pub record HasFours (source reference : Table) (t : Tried) : Type 0 where
  pub eight_columns : t.window.columns ≡ 8
  pub fours_of_rows : t.window.rows % 4 ≡ 0
  pub y : t.window.y + t.window.rows ≤ source.height
  pub top : pos 0 ≤ℤ (pos t.window.y +ℤ t.v.y)
  pub bottom : ((pos t.window.y +ℤ t.v.y) +ℤ pos t.window.rows) ≤ℤ pos reference.height

-- all that a tried vector costs where it leads to whole samples: its cost at first, and the sum of absolute differences
-- over its window
abbrev pub whole_sum : Table → Table → Tried → ℕ
whole_sum source reference t = t.first + whole_rows source reference t.window t.v t.window.rows

-- all that a tried vector costs where it counts parts of a sample: its cost at first, and the sum of absolute
-- differences over its window
abbrev pub sub_sum : Table → Up → ℕ → Tried → ℕ
sub_sum source up precision t = t.first + sub_rows source up precision t.window t.v t.window.rows

-- all that a tried vector costs at a stage: its cost at first, and the sum of absolute differences over its window
abbrev pub stage_sum : Searched → Stage → Tried → ℕ
stage_sum g stage t = t.first + distortion g stage t.window t.v
