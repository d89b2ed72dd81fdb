-- The windows of a unit's blocks make up its window.
use Rattle.std.proofs.Common.{◌≡◌, ℕ, ◌+◌, ◌*◌, arith, ap, ◌∙◌, sym}
use Rattle.std.proofs.Math.Nat.{add-mul}
use Rattle.dirac_costs.specs.Sums.{sum_below}
use Rattle.dirac_costs.specs.Windows.{over}
use Rattle.dirac_costs.proofs.Sums.{sum_parts, sum_same, sum_turned}

-- windows of one size, side by side
row_of_tiles : (f : ℕ → ℕ → ℕ) (i y columns rows size : ℕ)
    → sum_below (λ a. over (record { x = (i + a) * columns; y = y; columns = columns; rows = rows }) f) size
    ≡ over (record { x = i * columns; y = y; columns = size * columns; rows = rows }) f
row_of_tiles f i y columns rows size =
    sum_turned (λ a b. sum_below (λ k. f ((i + a) * columns + k) (y + b)) columns) size rows
    ∙ sum_same _ _ rows (λ b l.
    sum_same _ _ size (λ a m. sum_same _ _ columns (λ k n. ap (λ x. f x (y + b)) (place a k)))
    ∙ sym (sum_parts (λ k. f (i * columns + k) (y + b)) size columns))
  where
    place : (a k : ℕ) → (i + a) * columns + k ≡ i * columns + (a * columns + k)
    place a k = omega (arith, add-mul i a columns)

-- windows of one size, in rows below each other
pub tiles : (f : ℕ → ℕ → ℕ) (i j columns rows size : ℕ)
    → sum_below (λ b. sum_below (λ a. over (record { x = (i + a) * columns; y = (j + b) * rows; columns = columns; rows = rows }) f) size) size
    ≡ over (record { x = i * columns; y = j * rows; columns = size * columns; rows = size * rows }) f
tiles f i j columns rows size =
    sum_same _ _ size (λ b l.
    row_of_tiles f i ((j + b) * rows) columns rows size
    ∙ sum_same _ _ rows (λ c m. sum_same _ _ (size * columns) (λ k n. ap (f (i * columns + k)) (place b c))))
    ∙ sym (sum_parts (λ c. sum_below (λ k. f (i * columns + k) (j * rows + c)) (size * columns)) size rows)
  where
    place : (b c : ℕ) → (j + b) * rows + c ≡ j * rows + (b * rows + c)
    place b c = omega (arith, add-mul j b rows)
