-- In which columns and rows two lists of a band's values are the same. The contexts of a value are read off the columns
-- left of it in its row and the rows above, so these relations are all that is said of the order of coding.
use Rattle.std.specs.Prelude.{◌≡◌, ℕ, ℤ, pos, ◌<◌, ◌≤◌, List, length}
use Rattle.dirac_coeffs.specs.Contexts.{band_value}

-- the same values left of column `right` and above row `bottom`
pub record SameWithin (w : ℕ) (xs ys : List ℤ) (right bottom : ℕ) : Type 0 where
  pub each : (x y : ℕ) → x < w → x < right → y < bottom → band_value w xs x y ≡ band_value w ys x y

-- changed in these columns and rows alone
pub record KeptOutside (w left right top bottom : ℕ) (xs ys : List ℤ) : Type 0 where
  pub len : length ys ≡ length xs
  pub before : (x y : ℕ) → x < w → x < left → band_value w xs x y ≡ band_value w ys x y
  pub after : (x y : ℕ) → x < w → right ≤ x → band_value w xs x y ≡ band_value w ys x y
  pub over : (x y : ℕ) → x < w → y < top → band_value w xs x y ≡ band_value w ys x y
  pub under : (x y : ℕ) → x < w → bottom ≤ y → band_value w xs x y ≡ band_value w ys x y

-- zeros in the rows from `top` on, in the columns from `left` on
pub record ZeroFrom (w left top : ℕ) (xs : List ℤ) : Type 0 where
  pub each : (x y : ℕ) → x < w → left ≤ x → top ≤ y → band_value w xs x y ≡ pos 0
