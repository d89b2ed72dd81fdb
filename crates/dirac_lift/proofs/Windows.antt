-- Windows of a level, and the rows of them that are the level's.
use Rattle.std.proofs.Common.{◌≡◌, ℕ, ℤ, pos, ◌+◌, ◌-◌, ◌*◌, ◌/◌, ◌%◌, ◌<◌, ◌≤◌, ◌==◌, if◌then◌else◌, List, length, get_or, arith, inl, inr, ap, ap₂, sym, ◌∙◌, subst, eq-eqb}
use Rattle.std.specs.Prelude.{slice_range}
use Rattle.std.proofs.lemmas.Bool.{cases_eq, ne_eqb}
use Rattle.std.proofs.lemmas.List.{ext_get_or}
use Rattle.dirac_common.proofs.Rows.{filled_at}
use Rattle.dirac_lift.specs.Halves.{from_halves, place_in_halves}
use Rattle.dirac_lift.specs.Level.{column, row_in, synthesised}
use Rattle.dirac_lift.specs.Wavelets.{synth}
use Rattle.dirac_lift.specs.Windows.{AreInsideWindow, WindowsHaveRows, WindowsHaveStrips, margin, window, window_half}
use Rattle.dirac_lift.proofs.ColumnLemmas.{column_at, length-column}
use Rattle.dirac_lift.proofs.HalfPlanes.{filled_len, finished, level_at, level_filled, lifted_columns}
use Rattle.dirac_lift.proofs.RowLemmas.{length-row, row_at}
use Rattle.dirac_lift.proofs.WindowHalves.{half_at, row_is_strip, strips_alike}
use Rattle.dirac_lift.proofs.WindowLines.{IsWindow, window_synth}

place_inside : (w x : ℕ) → x < w → place_in_halves w x < w
place_inside w x l = elim (cases_eq (x % 2) 0) [
  | inl even ↦ rw (eq-eqb (x % 2) 0 even) (omega (arith, l))
  | inr odd ↦ rw (ne_eqb (x % 2) 0 odd) (omega (arith, l, odd))
]

-- a value of a level by its halves
abbrev told_at : ℕ → List ℤ → List ℤ → ℕ → ℕ → ℤ
told_at w es os x y = get_or (if y % 2 == 0 then es else os) (y / 2 * w + place_in_halves w x) (pos 0)

told_alike : (w a b : ℕ) (es os : List ℤ) (x p : ℕ) → a ≤ b → x < w → p < 2 * (b - a) → told_at w (window_half w a b es) (window_half w a b os) x p ≡ told_at w es os x (2 * a + p)
told_alike w a b es os x p fits l k =
    let parity : (2 * a + p) % 2 ≡ p % 2 = omega arith in
    let pair : (2 * a + p) / 2 ≡ a + p / 2 = omega arith in
    let inside : p / 2 < b - a = omega (arith, k) in
    elim (cases_eq (p % 2) 0) [
      | inl even ↦ rw (parity, eq-eqb (p % 2) 0 even, pair) (half_at w a b es (p / 2) (place_in_halves w x) fits inside (place_inside w x l))
      | inr odd ↦ rw (parity, ne_eqb (p % 2) 0 odd, pair) (half_at w a b os (p / 2) (place_in_halves w x) fits inside (place_inside w x l))
    ]

-- the columns of a window are windows of the level's columns
column_window : (w h a b : ℕ) (es os : List ℤ) (x : ℕ) → a < b → b ≤ h → x < w → IsWindow h a b 0 0 (column (from_halves w h es os).values w (2 * h) x) (column (window w a b es os).values w (2 * (b - a)) x)
column_window w h a b es os x some fits l =
    let xs : List ℤ = (from_halves w h es os).values in
    let ys : List ℤ = (window w a b es os).values in
    record {
      whole = length-column xs w (2 * h) x;
      part = length-column ys w (2 * (b - a)) x;
      alike = λ p k above below.
          let inside : 2 * a + p < 2 * h = omega (arith, k, fits, some) in
          column_at ys w (2 * (b - a)) x p k
          ∙ filled_at (told_at w (window_half w a b es) (window_half w a b os)) w (2 * (b - a)) x p l k
          ∙ told_alike w a b es os x p (omega (arith, some)) l k
          ∙ sym (column_at xs w (2 * h) x (2 * a + p) inside
          ∙ filled_at (told_at w es os) w (2 * h) x (2 * a + p) l inside);
    }

-- so are they after their synthesis, but for the margins
lifted_at_columns : (k w h : ℕ) (es os : List ℤ) (x y : ℕ) → x < w → y < 2 * h → get_or (lifted_columns k w h es os).values (y * w + x) (pos 0) ≡ get_or (synth k (column (from_halves w h es os).values w (2 * h) x)) y (pos 0)
lifted_at_columns k w h es os x y l j =
    filled_at (λ x y. get_or (synth k (column (from_halves w h es os).values w (2 * h) x)) y (pos 0)) w (2 * h) x y l j

lifted_len : (k w h : ℕ) (es os : List ℤ) → length (lifted_columns k w h es os).values ≡ w * (2 * h)
lifted_len k w h es os = filled_len w (2 * h) (λ x y. get_or (synth k (column (from_halves w h es os).values w (2 * h) x)) y (pos 0))

rows_alike : (k w h a b : ℕ) (es os : List ℤ) (p : ℕ) → k ≤ 6 → a < b → b ≤ h → p < 2 * (b - a) → (0 < a → margin k ≤ p / 2) → (b < h → p / 2 + margin k < b - a)
    → row_in (lifted_columns k w (b - a) (window_half w a b es) (window_half w a b os)).values w p ≡ row_in (lifted_columns k w h es os).values w (2 * a + p)
rows_alike k w h a b es os p wavelet some fits l above below =
    let es1 : List ℤ = window_half w a b es in
    let os1 : List ℤ = window_half w a b os in
    let ys : List ℤ = (lifted_columns k w (b - a) es1 os1).values in
    let xs : List ℤ = (lifted_columns k w h es os).values in
    let inside : 2 * a + p < 2 * h = omega (arith, l, fits, some) in
    let len : length (row_in ys w p) ≡ w = length-row ys w (2 * (b - a)) p (lifted_len k w (b - a) es1 os1) l in
    ext_get_or (pos 0) (row_in ys w p) (row_in xs w (2 * a + p)) (len ∙ sym (length-row xs w (2 * h) (2 * a + p) (lifted_len k w h es os) inside)) (λ x i.
    let across : x < w = omega (arith, i, len) in
    let line = window_synth k h a b (column (from_halves w h es os).values w (2 * h) x) (column (window w a b es os).values w (2 * (b - a)) x) wavelet some fits (column_window w h a b es os x some fits across) in
    row_at ys w p x across
    ∙ lifted_at_columns k w (b - a) es1 os1 x p across l
    ∙ line.alike p l above below
    ∙ sym (row_at xs w (2 * a + p) x across ∙ lifted_at_columns k w h es os x (2 * a + p) across inside))

-- the values of a synthesised level
level_value : (k w h : ℕ) (es os : List ℤ) (x y : ℕ) → x < w → y < 2 * h → get_or (synthesised k (from_halves w h es os)).values (y * w + x) (pos 0) ≡ level_at k w h es os x y
level_value k w h es os x y l j =
    ap (λ t. get_or t.values (y * w + x) (pos 0)) (sym (level_filled k w h es os))
    ∙ filled_at (level_at k w h es os) w (2 * h) x y l j

level_len : (k w h : ℕ) (es os : List ℤ) → length (synthesised k (from_halves w h es os)).values ≡ w * (2 * h)
level_len k w h es os =
    ap (λ t. length t.values) (sym (level_filled k w h es os)) ∙ filled_len w (2 * h) (level_at k w h es os)

-- value by value
pub window_value : (k w h a b from to : ℕ) (es os : List ℤ) (x y : ℕ) → k ≤ 6 → AreInsideWindow k h a b from to → x < w → from ≤ y → y < to
    → get_or (synthesised k (window w a b es os)).values ((y - 2 * a) * w + x) (pos 0) ≡ get_or (synthesised k (from_halves w h es os)).values (y * w + x) (pos 0)
window_value k w h a b from to es os x y wavelet inside l le lt =
    let p : ℕ = y - 2 * a in
    let place : 2 * a + p ≡ y = omega (arith, inside.first, le) in
    let fits : p < 2 * (b - a) = omega (arith, inside.last, lt, place) in
    let es1 : List ℤ = window_half w a b es in
    let os1 : List ℤ = window_half w a b os in
    level_value k w (b - a) es1 os1 x p l fits
    ∙ ap (λ row. finished k (get_or (synth k row) x (pos 0)))
    (rows_alike k w h a b es os p wavelet inside.some inside.down fits
    (λ z. omega (arith, inside.above z, le, place)) (λ z. omega (arith, inside.below z, lt, place)))
    ∙ ap (level_at k w h es os x) place
    ∙ sym (level_value k w h es os x y l (omega (arith, inside.last, inside.down, lt)))

-- the rows of a strip
strip : (k w h a b c n : ℕ) (es os : List ℤ) → k ≤ 6 → AreInsideWindow k h a b (2 * a + c) (2 * a + c + n)
    → slice_range (synthesised k (window w a b es os)).values (c * w) ((c + n) * w) ≡ slice_range (synthesised k (from_halves w h es os)).values ((2 * a + c) * w) ((2 * a + c + n) * w)
strip k w h a b c n es os wavelet inside =
    strips_alike w n c (2 * a + c) (2 * (b - a)) (2 * h) (synthesised k (window w a b es os)).values (synthesised k (from_halves w h es os)).values
    (level_len k w (b - a) (window_half w a b es) (window_half w a b os)) (level_len k w h es os)
    (omega (arith, inside.last, inside.some)) (omega (arith, inside.last, inside.down))
    (λ x y l j.
    let place : 2 * a + c + y - 2 * a ≡ c + y = omega arith in
    ap (λ i. get_or (synthesised k (window w a b es os)).values (i * w + x) (pos 0)) (sym place)
    ∙ window_value k w h a b (2 * a + c) (2 * a + c + n) es os x (2 * a + c + y) wavelet inside l (omega arith) (omega (arith, j)))

pub windows_have_strips : WindowsHaveStrips
windows_have_strips k w h a b from to es os wavelet inside =
    let c : ℕ = from - 2 * a in
    let n : ℕ = to - from in
    let begin : 2 * a + c ≡ from = omega (arith, inside.first) in
    let end : 2 * a + c + n ≡ to = omega (arith, begin, inside.ordered) in
    let last : c + n ≡ to - 2 * a = omega (arith, inside.first, inside.ordered) in
    let moved : AreInsideWindow k h a b (2 * a + c) (2 * a + c + n) = subst (λ i. AreInsideWindow k h a b i (2 * a + c + n)) (sym begin) (subst (AreInsideWindow k h a b from) (sym end) inside) in
    ap (λ i. slice_range (synthesised k (window w a b es os)).values (c * w) (i * w)) (sym last)
    ∙ strip k w h a b c n es os wavelet moved
    ∙ ap₂ (λ i j. slice_range (synthesised k (from_halves w h es os)).values (i * w) (j * w)) begin end

pub windows_have_rows : WindowsHaveRows
windows_have_rows k w h a b y es os wavelet inside =
    let next : y + 1 - 2 * a ≡ y - 2 * a + 1 = omega (arith, inside.first) in
    row_is_strip w (y - 2 * a) (synthesised k (window w a b es os)).values
    ∙ ap (λ i. slice_range (synthesised k (window w a b es os)).values ((y - 2 * a) * w) (i * w)) (sym next)
    ∙ windows_have_strips k w h a b y (y + 1) es os wavelet inside
    ∙ sym (row_is_strip w y (synthesised k (from_halves w h es os)).values)
