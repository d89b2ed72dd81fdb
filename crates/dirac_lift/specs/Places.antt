-- What becomes of the columns and rows of a plane's values.
use Rattle.std.specs.Prelude.{◌≡◌, ℕ, ℤ, ◌<◌, ◌^◌, List, length}
use Rattle.dirac_lift.specs.Level.{column, row_in}
use Rattle.dirac_lift.specs.Lifting.{Step, PlacesWithin}
use Rattle.dirac_lift.specs.Safety.{Safe}

-- each column is f of what it was
pub record ColumnsBecome (f : List ℤ → List ℤ) (w h : ℕ) (xs ys : List ℤ) : Type 0 where
  pub len : length ys ≡ length xs
  pub each : (x : ℕ) → x < w → column ys w h x ≡ f (column xs w h x)

-- each row is f of what it was
pub record RowsBecome (f : List ℤ → List ℤ) (w h : ℕ) (xs ys : List ℤ) : Type 0 where
  pub len : length ys ≡ length xs
  pub each : (y : ℕ) → y < h → row_in ys w y ≡ f (row_in xs w y)

-- all columns are small before a step
pub record ColumnsSmall (w h : ℕ) (xs : List ℤ) : Type 0 where
  pub evens : (x : ℕ) → x < w → PlacesWithin (2 ^ 112) 0 (column xs w h x)
  pub odds : (x : ℕ) → x < w → PlacesWithin (2 ^ 112) 1 (column xs w h x)

-- steps are safe in all columns
pub record ColumnsSafe (ss : List Step) (w h : ℕ) (xs : List ℤ) : Type 0 where
  pub each : (x : ℕ) → x < w → Safe ss (column xs w h x)
