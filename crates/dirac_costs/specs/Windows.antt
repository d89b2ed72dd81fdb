-- Windows of planes, and sums over them.
use Rattle.std.specs.Prelude.{ℕ, ℤ, pos, ◌+◌, ◌*◌, ◌+ℤ◌, ◌-ℤ◌, ◌*ℤ◌, unsigned_abs, List, slice_index_or}
use Rattle.std.specs.Int.{int_div_euclid}
use Rattle.dirac_common.specs.Table.{Table, clamped_at}
use Rattle.dirac_costs.specs.Sums.{sum_below, total_below}
use Rattle.dirac_costs.specs.declared.window.Window.{Window}

-- the sum of a number for each column and row of a window
abbrev pub over : Window → (ℕ → ℕ → ℕ) → ℕ
over w f = sum_below (λ b. sum_below (λ a. f (w.x + a) (w.y + b)) w.columns) w.rows

-- the sum of a signed number for each column and row of a window
abbrev pub total_over : Window → (ℕ → ℕ → ℤ) → ℤ
total_over w f = total_below (λ b. total_below (λ a. f (w.x + a) (w.y + b)) w.columns) w.rows

-- the sample of a plane in this column and row; beyond its edges the nearest one
abbrev pub sample_at : Table → ℕ → ℕ → ℤ
sample_at t x y = clamped_at t (pos x) (pos y)

-- the samples of row y of a plane, from column x on
abbrev pub row_from : Table → ℕ → ℕ → ℕ → ℤ
row_from t x y k = sample_at t (x + k) y

-- the values of a list from a place on
abbrev pub values_from : List ℤ → ℕ → ℕ → ℤ
values_from values first k = slice_index_or values (first + k) (pos 0)

-- the sum of absolute differences of the first values of two rows
abbrev pub values_apart : (ℕ → ℤ) → (ℕ → ℤ) → ℕ → ℕ
values_apart f g count = sum_below (λ k. unsigned_abs (f k -ℤ g k)) count

-- how far two planes are apart in column x of row y
abbrev pub apart : (ℕ → ℕ → ℤ) → (ℕ → ℕ → ℤ) → ℕ → ℕ → ℕ
apart f g x y = unsigned_abs (f x y -ℤ g x y)

-- the mean of a plane's samples in a window, to the nearest, halves up
abbrev pub mean_over : Table → Window → ℤ
mean_over t w =
    int_div_euclid (pos 2 *ℤ total_over w (sample_at t) +ℤ pos (w.columns * w.rows)) (pos (2 * (w.columns * w.rows)))
