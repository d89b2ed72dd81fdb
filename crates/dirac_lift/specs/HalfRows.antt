-- Rows that are analysed into their halves.
use Rattle.std.specs.Prelude.{ℕ, pos, ◌+◌, ◌-◌, ◌*◌, ◌/◌, nat_lt, if◌then◌else◌, slice_index_or}
use Rattle.dirac_common.specs.Table.{Table, table_of}
use Rattle.dirac_lift.specs.Level.{first_doubled, row_in}
use Rattle.dirac_lift.specs.Wavelets.{analyse}

-- the column that stands at this place of a row whose even columns stand before its odd ones
abbrev pub column_of : ℕ → ℕ → ℕ
column_of width place = if nat_lt place (width / 2) then 2 * place else 2 * (place - width / 2) + 1

-- the rows 2n + first of a plane, analysed as rows, in each the even columns before the odd ones
abbrev pub analysed_rows : ℕ → ℕ → Table → Table
analysed_rows wavelet first t =
    table_of t.width (t.height / 2)
    (λ x y.
    let row = analyse wavelet (first_doubled wavelet (row_in t.values t.width (2 * y + first))) in
    slice_index_or row (column_of t.width x) (pos 0))
