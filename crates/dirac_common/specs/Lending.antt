-- What a loan of a table's row or values gives back when it ends.
use Rattle.std.specs.Prelude.{ℕ, List}
use Rattle.std.specs.Borrow.{Lends, MutBor, Fml, RattleType, Array}
use Rattle.dirac_common.specs.Table.{Cells, with_row, with_values}
use Rattle.dirac_common.specs.contracts.table.Table.{the_row}

-- the table comes back with row y as the loan leaves it
abbrev pub LendsRow : (T : RattleType) → MutBor (Cells T.Denot) → ℕ → MutBor (List T.Denot) → Fml
LendsRow T t y r = Lends (the_row T) (Array T 0) t r (with_row t.now y)

-- the table comes back with all its values as the loan leaves them
abbrev pub LendsValues : (T : RattleType) → MutBor (Cells T.Denot) → MutBor (List T.Denot) → Fml
LendsValues T t r = Lends (the_row T) (Array T 0) t r (with_values t.now)
