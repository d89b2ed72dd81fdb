-- How large the synthesis of a level makes the values of a plane, by its definition.
use Rattle.std.proofs.Common.{◌≡◌, ℕ, ℤ, pos, ◌+◌, ◌*◌, ◌%◌, ◌<◌, ◌≤◌, unsigned_abs, List, length, get_or, arith, sym, ◌∙◌}
use Rattle.std.specs.List.{All}
use Rattle.std.proofs.lemmas.List.{ext_get_or}
use Rattle.dirac_common.specs.Table.{Table, filled}
use Rattle.dirac_common.proofs.Rows.{filled_at}
use Rattle.dirac_lift.specs.Level.{column, columns_by, row_in, rows_by, synthesised}
use Rattle.dirac_lift.specs.Places.{ColumnsBecome, RowsBecome}
use Rattle.dirac_lift.specs.Wavelets.{run, steps_of, synth, synth_bound}
use Rattle.dirac_lift.proofs.ColumnLemmas.{column_at, length-column}
use Rattle.dirac_lift.proofs.HalfPlanes.{filled_len}
use Rattle.dirac_lift.proofs.LevelLemmas.{level_bound, synth_columns_grow, synth_rows_grow}
use Rattle.dirac_lift.proofs.RowLemmas.{length-row, row_at}
use Rattle.dirac_lift.proofs.Runs.{length-run}

length-synth : (k : ℕ) (xs : List ℤ) → length (synth k xs) ≡ length xs
unfolding synth
length-synth k xs = length-run (steps_of k) xs

columns_become : (k w h : ℕ) (xs : List ℤ) → length xs ≡ w * h → ColumnsBecome (synth k) w h xs (filled w h (λ x y. get_or (synth k (column xs w h x)) y (pos 0)))
columns_become k w h xs len =
    let f : ℕ → ℕ → ℤ = λ x y. get_or (synth k (column xs w h x)) y (pos 0) in
    record {
      len = filled_len w h f ∙ sym len;
      each = λ x l.
          ext_get_or (pos 0) (column (filled w h f) w h x) (synth k (column xs w h x))
          (length-column (filled w h f) w h x ∙ sym (length-synth k (column xs w h x) ∙ length-column xs w h x))
          (λ j i.
          let inside : j < h = omega (arith, i, length-column (filled w h f) w h x) in
          column_at (filled w h f) w h x j inside ∙ filled_at f w h x j l inside);
    }

rows_become : (k w h : ℕ) (xs : List ℤ) → length xs ≡ w * h → RowsBecome (synth k) w h xs (filled w h (λ x y. get_or (synth k (row_in xs w y)) x (pos 0)))
rows_become k w h xs len =
    let f : ℕ → ℕ → ℤ = λ x y. get_or (synth k (row_in xs w y)) x (pos 0) in
    record {
      len = filled_len w h f ∙ sym len;
      each = λ y l.
          ext_get_or (pos 0) (row_in (filled w h f) w y) (synth k (row_in xs w y))
          (length-row (filled w h f) w h y (filled_len w h f) l ∙ sym (length-synth k (row_in xs w y) ∙ length-row xs w h y len l))
          (λ j i.
          let inside : j < w = omega (arith, i, length-row (filled w h f) w h y (filled_len w h f) l) in
          row_at (filled w h f) w y j inside ∙ filled_at f w h j y inside l);
    }

run_columns : (k w h : ℕ) (xs ys : List ℤ) → ColumnsBecome (synth k) w h xs ys → ColumnsBecome (run (steps_of k)) w h xs ys
unfolding synth
run_columns k w h xs ys c = record { len = c.len; each = c.each }

pub level_grows : (k b : ℕ) (t : Table) → k ≤ 6 → t.width % 2 ≡ 0 → t.height % 2 ≡ 0 → length t.values ≡ t.width * t.height → 1 ≤ t.width → All (λ v. unsigned_abs v ≤ b) t.values → All (λ v. unsigned_abs v ≤ 72 * b + 40) (synthesised k t).values
level_grows k b t l across down len one all =
    let ys = (columns_by (synth k) t).values in
    let zs = (rows_by (synth k) (columns_by (synth k) t)).values in
    let columns : ColumnsBecome (synth k) t.width t.height t.values ys = columns_become k t.width t.height t.values len in
    let rows : RowsBecome (synth k) t.width t.height ys zs = rows_become k t.width t.height ys (columns.len ∙ len) in
    level_bound k b zs
    (synth_rows_grow (synth_bound k b) k t.width t.height ys zs l across (columns.len ∙ len) one rows
    (synth_columns_grow b k t.width t.height t.values ys l down len one (run_columns k t.width t.height t.values ys columns) all))
