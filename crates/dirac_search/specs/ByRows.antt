-- Lists by rows.
use Rattle.std.specs.Prelude.{ℕ, List, map}
use Rattle.std.specs.List.{flat_map, range_with_len}

-- row y of a value for each column and row
abbrev pub row_values : {A : Type 0} → ℕ → (ℕ → ℕ → A) → ℕ → List A
row_values width f y = map (λ x. f x y) (range_with_len 0 width)

-- a value for each column and row, row by row from the top
unfoldable pub listed_by_rows : {A : Type 0} → ℕ → ℕ → (ℕ → ℕ → A) → List A
listed_by_rows width height f = flat_map (row_values width f) (range_with_len 0 height)
