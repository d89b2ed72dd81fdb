-- Halves of rows.
use Rattle.std.specs.Prelude.{ℕ, ◌+◌, ◌/◌}
use Rattle.dirac_common.specs.Table.{Table, table_at, table_of}

-- half as many columns of a table as it has, from this one on
abbrev pub half_columns : Table → ℕ → Table
half_columns t from = table_of (t.width / 2) t.height (λ x y. table_at t (from + x) y)
