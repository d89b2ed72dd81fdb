-- Rows that hold their even columns first and then their odd ones.
use Rattle.std.specs.Prelude.{◌≡◌, ℕ, ℤ, pos, ◌+◌, ◌-◌, ◌*◌, ◌/◌, ◌%◌, ◌<◌, List, length, slice_index_or}
use Rattle.dirac_common.specs.Table.{Table, table_at, table_of}

-- where column x stands in a row of so many places, the even columns first
abbrev pub place_in_row : ℕ → ℕ → ℕ
place_in_row places x = x % 2 * (places / 2) + x / 2

-- column x of row y of rows with so many even columns, one row behind another
abbrev pub phase_at : ℕ → List ℤ → ℕ → ℕ → ℤ
phase_at columns samples x y = slice_index_or samples (y * (2 * columns) + place_in_row (2 * columns) x) (pos 0)

-- the table of so many even columns and rows whose rows these samples are, of each its even columns before its odd ones
abbrev pub table_of_phases : ℕ → ℕ → List ℤ → Table
table_of_phases columns rows samples = table_of (2 * columns - 1) (2 * rows - 1) (phase_at columns samples)

-- sample k of line n of a table: the even columns of a row, and in the next line its odd ones
abbrev pub line_at : Table → ℕ → ℕ → ℤ
line_at t k n = table_at t (2 * k + n % 2) (n / 2)

-- the lines of a table, one behind another, with so many places each; places that have no sample may hold anything
pub record AreLines (t : Table) (places : ℕ) (values : List ℤ) : Type 0 where
  pub len : length values ≡ 2 * t.height * places
  pub value : (k n : ℕ) → 2 * k + n % 2 < t.width → n < 2 * t.height
      → slice_index_or values (n * places + k) (pos 0) ≡ line_at t k n
