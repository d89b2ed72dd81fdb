-- Rows of a plane that are summed with predictions, some rows of these at a time.
use Rattle.std.proofs.Common.{◌≡◌, ℕ, ℤ, pos, ◌+◌, ◌-◌, ◌*◌, ◌<◌, ◌≤◌, ◌+ℤ◌, List, length, map, get_or, take, arith, refl, ap, ap₂, sym, ◌∙◌}
use Rattle.std.proofs.lemmas.List.{get_or-map, get_or-take, length-take-le}
use Rattle.dirac_common.specs.Samples.{clip}
use Rattle.dirac_common.specs.Table.{Table, row_of, table_at, table_of}
use Rattle.dirac_common.proofs.Rows.{filled_at, row_at, rows_all}
use Rattle.dirac_synthesis.specs.declared.sums.Strip.{Strip}
use Rattle.dirac_synthesis.specs.Residual.{clipped, rows_between, summed_with, with_prediction}
use Rattle.dirac_synthesis.specs.Sums.{IsOfSize, IsStripOf}
use Rattle.dirac_synthesis.specs.Zeros.{zeros}
use Rattle.dirac_synthesis.proofs.StripRows.{sum_at}
use Rattle.dirac_synthesis.proofs.ZeroBands.{zeros_summed}

-- a row of a strip is one of its plane
pub strip_row : (t : Table) (s : Strip) (x y : ℕ) → IsStripOf t s → s.first ≤ y → y < s.end → x < t.width → get_or (row_of s.values (y - s.first)) x (pos 0) ≡ table_at t x y
strip_row t s x y is begun unended l =
    let across : s.values.width ≡ t.width = ap (λ (u : Table). u.width) is.values in
    let place : s.first + (y - s.first) ≡ y = omega (arith, begun) in
    row_at s.values x (y - s.first) (omega (arith, across, l))
    ∙ ap (λ (u : Table). table_at u x (y - s.first)) is.values
    ∙ filled_at (λ a b. table_at t a (s.first + b)) t.width (s.end - s.first) x (y - s.first) l (omega (arith, begun, unended))
    ∙ ap (table_at t x) place

-- a strip has as many columns as its plane, and its own rows
pub strip_size : (t : Table) (s : Strip) → IsStripOf t s → (s.values.width ≡ t.width) × (s.values.height ≡ s.end - s.first)
strip_size t s is = (ap (λ (u : Table). u.width) is.values, ap (λ (u : Table). u.height) is.values)

-- a sample of a row of a plane: a value of its residual and one that is predicted, clipped
pub sample_summed : (t : Table) (s : Strip) (w h x y : ℕ) (line row ws : List ℤ) → IsOfSize w h t → IsStripOf t s → s.first ≤ y → y < s.end → x < w → w ≤ length line
    → row ≡ row_of s.values (y - s.first) → length row ≡ w → ws ≡ map clip (summed_with (take w line) row)
    → get_or ws x (pos 0) ≡ clip (get_or line x (pos 0) +ℤ get_or t.values (y * w + x) (pos 0))
sample_summed t s w h x y line row ws size is begun unended l fits er er' ew =
    let part : length (take w line) ≡ w = length-take-le w line fits in
    ap (λ zs. get_or zs x (pos 0)) ew
    ∙ sum_at (take w line) row x (omega (arith, l, part)) (er' ∙ sym part)
    ∙ ap₂ (λ a b. clip (a +ℤ b)) (get_or-take w line x (pos 0) l)
    (ap (λ zs. get_or zs x (pos 0)) er ∙ strip_row t s x y is begun unended (omega (arith, l, size.across)) ∙ ap (λ n. get_or t.values (y * n + x) (pos 0)) size.across)

-- and one of a row whose residual is 0
pub sample_clipped : (t : Table) (s : Strip) (x y : ℕ) (row ws : List ℤ) → IsStripOf t s → s.first ≤ y → y < s.end → x < t.width
    → row ≡ row_of s.values (y - s.first) → length row ≡ t.width → ws ≡ map clip row → get_or ws x (pos 0) ≡ clip (table_at t x y)
sample_clipped t s x y row ws is begun unended l er er' ew =
    ap (λ zs. get_or zs x (pos 0)) ew
    ∙ get_or-map clip row x (pos 0) (pos 0) (omega (arith, l, er'))
    ∙ ap clip (ap (λ zs. get_or zs x (pos 0)) er ∙ strip_row t s x y is begun unended l)

-- all rows of a table, from the first on, are the table
pub all_rows : (t : Table) (w h : ℕ) → IsOfSize w h t → 0 < w → rows_between 0 h t ≡ t
all_rows t w h size some =
    let none : h - 0 ≡ h = omega arith in
    ap (λ n. table_of t.width n (λ x y. table_at t x (0 + y))) none
    ∙ sym (rows_all (λ x y. table_at t x (0 + y)) t t.width h h refl size.down (omega (arith, some, size.across)) (omega arith)
    (record {
      len = size.whole ∙ ap₂ (λ a b. a * b) (sym size.across) (sym size.down);
      done = λ x y l k. let place : y ≡ 0 + y = omega arith in ap (table_at t x) place;
    }))

-- predictions by themselves, clipped, are summed with zeros
pub clipped_alone : (t : Table) (w h : ℕ) → IsOfSize w h t → clipped t ≡ clipped (with_prediction (zeros w h) t.values)
clipped_alone t w h size =
    let told : ℕ → ℕ → Table = λ a b. record { width = a; height = b; values = map clip t.values } in
    ap (λ n. told n t.height) size.across ∙ ap (told w) size.down ∙ sym (ap clipped (zeros_summed w h t.values size.whole))
