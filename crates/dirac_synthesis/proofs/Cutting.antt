-- What is cut off below a table: its first rows stay as they are.
use Rattle.std.proofs.Common.{◌≡◌, ℕ, pos, ◌+◌, ◌*◌, ◌<◌, ◌≤◌, length, take, arith, refl, mul_comm}
use Rattle.std.proofs.lemmas.List.{length-take-le, get_or-take}
use Rattle.std.proofs.lemmas.Nat.{row_fits, mul-le}
use Rattle.dirac_common.specs.Table.{Table, table_at}
use Rattle.dirac_bands.proofs.Undoing.{table_is}
use Rattle.dirac_synthesis.specs.Residual.{cut}

pub first_rows_cut : (t : Table) (h : ℕ) → 0 < t.width → h ≤ t.height → length t.values ≡ t.width * t.height → record { width = t.width; height = h; values = take (t.width * h) t.values } ≡ cut t.width h t
first_rows_cut t h some less whole =
    let part : Table = record { width = t.width; height = h; values = take (t.width * h) t.values } in
    let fits : t.width * h ≤ length t.values = omega (arith, whole, mul-le t.width h t.width t.height (omega arith) less) in
    table_is (table_at t) part t.width h refl refl some (length-take-le (t.width * h) t.values fits)
    (λ x y p q. get_or-take (t.width * h) t.values (y * t.width + x) (pos 0) (omega (arith, p, row_fits y t.width h t.width q (omega arith), mul_comm h t.width)))
