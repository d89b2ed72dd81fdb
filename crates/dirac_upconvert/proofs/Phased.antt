-- Rows that hold their even columns first and then their odd ones.
use Rattle.std.proofs.Common.{◌≡◌, ◌≢◌, ℕ, ℤ, pos, suc, ◌+◌, ◌-◌, ◌*◌, ◌/◌, ◌%◌, ◌<◌, ◌≤◌, List, ◌++◌, length, get_or, arith, refl, inl, inr, ap, sym, ◌∙◌}
use Rattle.std.specs.List.{slice_range}
use Rattle.std.proofs.lemmas.Bool.{cases_eq, cases_lt}
use Rattle.std.proofs.lemmas.List.{get_or_append_left, get_or-append-add}
use Rattle.std.proofs.lemmas.List.FromFn.{length-map-range_with_len}
use Rattle.std.proofs.lemmas.Nat.{row_fits}
use Rattle.dirac_common.specs.Table.{filled, table_at, table_of}
use Rattle.dirac_common.proofs.Rows.{RowsFilled, filled_at, rows_all}
use Rattle.dirac_upconvert.specs.Phases.{AreLines, phase_at, place_in_row, table_of_phases}
use Rattle.dirac_upconvert.proofs.Lanes.{part_read}

-- even columns stand first, odd ones behind them
pub place_even : (places x : ℕ) → x % 2 ≡ 0 → place_in_row places x ≡ x / 2
place_even places x e = rw e (omega arith)

pub place_odd : (places x : ℕ) → x % 2 ≢ 0 → place_in_row places x ≡ places / 2 + x / 2
place_odd places x e = let one : x % 2 ≡ 1 = omega arith in rw one (omega arith)

-- columns that are two apart stand side by side
pub held_more : (places x k p : ℕ) → p ≡ x + 2 * k → place_in_row places p ≡ place_in_row places x + k
held_more places x k p e =
    let rem : p % 2 ≡ x % 2 = omega arith in
    let quot : p / 2 ≡ x / 2 + k = omega arith in
    rw (rem, quot) (omega arith)

pub held_inside : (places x n : ℕ) → places % 2 ≡ 0 → x + 2 * n ≤ places → place_in_row places x + n ≤ places
held_inside places x n even fits = elim (cases_eq (x % 2) 0) [
  | inl e ↦ omega (arith, place_even places x e)
  | inr e ↦ omega (arith, place_odd places x e)
]

pub held_below : (places x : ℕ) → places % 2 ≡ 0 → x < places → place_in_row places x < places
held_below places x even fits = elim (cases_eq (x % 2) 0) [
  | inl e ↦ omega (arith, place_even places x e)
  | inr e ↦ omega (arith, place_odd places x e)
]

-- a row of them, as a column of the table
pub held_row : (columns rows y start end x : ℕ) (samples : List ℤ) → x < 2 * columns - 1 → y < 2 * rows - 1 → start ≡ y * (2 * columns) → end ≡ start + 2 * columns → end ≤ length samples
    → get_or (slice_range samples start end) (place_in_row (2 * columns) x) (pos 0) ≡ table_at (table_of_phases columns rows samples) x y
held_row columns rows y start end x samples across down es ee fits =
    let even : 2 * columns % 2 ≡ 0 = omega arith in
    let below = held_below (2 * columns) x even (omega arith) in
    part_read samples start end (place_in_row (2 * columns) x) (y * (2 * columns) + place_in_row (2 * columns) x) (omega (arith, below, ee)) (omega (arith, es))
    ∙ sym (filled_at (phase_at columns samples) (2 * columns - 1) (2 * rows - 1) x y across down)

-- the rows, as lines of even columns and of odd ones
line_place : (c n k : ℕ) → (n / 2) * (2 * c) + place_in_row (2 * c) (2 * k + n % 2) ≡ n * c + k
line_place c n k =
    let rem : n % 2 < 2 = omega arith in
    let odd : (2 * k + n % 2) % 2 ≡ n % 2 = omega arith in
    let half : (2 * k + n % 2) / 2 ≡ k = omega arith in
    let whole : n ≡ 2 * (n / 2) + n % 2 = omega arith in
    let columns : 2 * c / 2 ≡ c = omega arith in
    rw (odd, half, columns) (at_line (n / 2) (n % 2) c k ∙ ap (λ m. m * c + k) (sym whole))
  where
    at_line : (row odd c k : ℕ) → row * (2 * c) + (odd * c + k) ≡ (2 * row + odd) * c + k
    at_line row odd c k = omega arith

pub held_lines : (columns rows places : ℕ) (values samples : List ℤ) → 1 ≤ columns → length samples ≡ (2 * rows - 1) * (2 * columns) → values ≡ samples → places ≡ columns
    → AreLines (table_of_phases columns rows samples) places values
held_lines columns rows places values samples some len same e =
    rw (same, e)
    (record {
      len = len ∙ doubled (2 * rows - 1) columns;
      value = λ k n across down.
          ap (λ i. get_or samples i (pos 0)) (sym (line_place columns n k))
          ∙ sym (filled_at (phase_at columns samples) (2 * columns - 1) (2 * rows - 1) (2 * k + n % 2) (n / 2) across (omega (arith, down)));
    })
  where
    doubled : (a c : ℕ) → a * (2 * c) ≡ 2 * a * c
    doubled a c = omega arith

-- one more row is appended
pub phases_more : (w j m : ℕ) (f : ℕ → ℕ → ℤ) (xs ws : List ℤ) → ((x y : ℕ) → x + 1 < 2 * w → y < j → phase_at w xs x y ≡ f x y) → length xs ≡ j * (2 * w) → m ≡ suc j
    → ((x : ℕ) → x + 1 < 2 * w → get_or ws (place_in_row (2 * w) x) (pos 0) ≡ f x j) → (x y : ℕ) → x + 1 < 2 * w → y < m → phase_at w (xs ++ ws) x y ≡ f x y
phases_more w j m f xs ws h len next row x y across l =
    let even : 2 * w % 2 ≡ 0 = omega arith in
    let below = held_below (2 * w) x even (omega arith) in
    elim (cases_lt y j) [
      | inl before ↦
          get_or_append_left xs ws (pos 0) (y * (2 * w) + place_in_row (2 * w) x) (omega (arith, row_fits y (2 * w) j (2 * w) before (omega arith), below, len)) ∙ h x y across before
      | inr past ↦
          let here : y ≡ j = omega (arith, l, past, next) in
          rw here (ap (λ i. get_or (xs ++ ws) (i + place_in_row (2 * w) x) (pos 0)) (sym len) ∙ get_or-append-add xs ws (place_in_row (2 * w) x) (pos 0) ∙ row x across)
    ]

-- all rows
pub phases_all : (columns rows : ℕ) (f : ℕ → ℕ → ℤ) (samples : List ℤ) → 1 ≤ columns → 1 ≤ rows → ((x y : ℕ) → x + 1 < 2 * columns → y + 1 < 2 * rows → phase_at columns samples x y ≡ f x y)
    → table_of_phases columns rows samples ≡ table_of (2 * columns - 1) (2 * rows - 1) f
unfolding filled
phases_all columns rows f samples across down h =
    let t = table_of_phases columns rows samples in
    let told : RowsFilled f (2 * columns - 1) (2 * rows - 1) t.values (2 * rows - 1) = record {
      len = length-map-range_with_len (λ p. phase_at columns samples (p % (2 * columns - 1)) (p / (2 * columns - 1))) 0 ((2 * columns - 1) * (2 * rows - 1));
      done = λ x y a b. filled_at (phase_at columns samples) (2 * columns - 1) (2 * rows - 1) x y a b ∙ h x y (omega arith) (omega arith);
    } in
    rows_all f t (2 * columns - 1) (2 * rows - 1) (2 * rows - 1) refl refl (omega arith) (omega arith) told
