-- A table of samples or values, as contracts see planes: by rows, from the top.
use Rattle.std.specs.Prelude.{ℕ, ℤ, ◌+◌, ◌*◌, ◌/◌, ◌%◌, pos, List, length, map, ◌++◌, take, drop, slice_index_or}
use Rattle.std.specs.Prelude.{slice_range, slice_set, unsigned_abs, int_lt, ◌-◌, if◌then◌else◌}
use Rattle.std.specs.List.{range_with_len}

-- columns, rows, and the values row by row
pub record Cells (A : Type 0) : Type 0 where
  pub width : ℕ
  pub height : ℕ
  pub values : List A

-- a table of numbers, whatever their type
abbrev pub Table : Type 0
Table = Cells ℤ

-- the value in column x of row y; outside of the table it is the other one
abbrev pub cell_at : {A : Type 0} → A → Cells A → ℕ → ℕ → A
cell_at other t x y = slice_index_or t.values (y * t.width + x) other

-- the value in column x of row y
abbrev pub table_at : Table → ℕ → ℕ → ℤ
table_at t x y = slice_index_or t.values (y * t.width + x) (pos 0)

-- row y as a list
abbrev pub row_of : {A : Type 0} → Cells A → ℕ → List A
row_of t y = slice_range t.values (y * t.width) (y * t.width + t.width)

-- the table with one value changed
abbrev pub with_value : {A : Type 0} → Cells A → ℕ → ℕ → A → Cells A
with_value t x y v = record t { values = slice_set t.values (y * t.width + x) v }

-- a list with a part of it written over from place i on; it keeps its length whatever is written
abbrev pub overwritten : {A : Type 0} → List A → ℕ → List A → List A
overwritten xs i ws =
    let ys = take i xs ++ (ws ++ drop (length ws) (drop i xs)) in take (length xs) (ys ++ drop (length ys) xs)

-- the table with row y written over
abbrev pub with_row : {A : Type 0} → Cells A → ℕ → List A → Cells A
with_row t y ws = record t { values = overwritten t.values (y * t.width) ws }

-- the table with all its values written over
abbrev pub with_values : {A : Type 0} → Cells A → List A → Cells A
with_values t ws = record t { values = take (length t.values) (ws ++ drop (length ws) t.values) }

-- the place from 0 to size - 1 that is nearest
abbrev pub clamped_to : ℤ → ℕ → ℕ
clamped_to x size = if int_lt x (pos (size - 1)) then (if int_lt x (pos 0) then 0 else unsigned_abs x) else size - 1

-- the value at a position clamped to the table
abbrev pub clamped_at : Table → ℤ → ℤ → ℤ
clamped_at t x y = table_at t (clamped_to x t.width) (clamped_to y t.height)

-- the values of a table by rows, told by column and row
unfoldable pub filled : ℕ → ℕ → (ℕ → ℕ → ℤ) → List ℤ
filled width height f = map (λ place. f (place % width) (place / width)) (range_with_len 0 (width * height))

-- the table with these values
abbrev pub table_of : ℕ → ℕ → (ℕ → ℕ → ℤ) → Table
table_of width height f = record { width = width; height = height; values = filled width height f }
