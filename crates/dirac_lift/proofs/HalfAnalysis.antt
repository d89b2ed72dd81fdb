-- The analysis of a level in 32 bits: that they are enough, and what becomes of its rows and columns.
use Rattle.std.proofs.Common.{◌≡◌, ℕ, ℤ, pos, zero, suc, Bool, true, false, if◌then◌else◌, ◌==◌, ◌+◌, ◌-◌, ◌*◌, ◌/◌, ◌%◌, ◌<◌, ◌≤◌, unsigned_abs, List, [], ◌∷◌, length, map, get_or, take, drop, arith, refl, inl, inr, ap, sym, ◌∙◌, subst, eq-eqb}
use Rattle.std.specs.List.{All}
use Rattle.std.proofs.lemmas.Bool.{cases_eq, cases_lt, ne_eqb, lt-ltb, le-ltb}
use Rattle.std.proofs.lemmas.List.{get_or-take, get_or-drop, take-map, drop-map}
use Rattle.std.proofs.lemmas.List.FromFn.{get_or-map-range_with_len, length-map-range_with_len}
use Rattle.std.proofs.lemmas.Nat.{div_below}
use Rattle.dirac_common.specs.Table.{Table, filled}
use Rattle.dirac_common.proofs.Bounds.{values_bound}
use Rattle.dirac_common.proofs.Rows.{filled_at, rows_all}
use Rattle.dirac_lift.specs.HalfRows.{analysed_rows, column_of}
use Rattle.dirac_lift.specs.HalfRuns.{AreNarrow, HalvesRun, stays_narrow}
use Rattle.dirac_lift.specs.Halves.{AreHalvesOfLine, from_halves, place_in_halves}
use Rattle.dirac_lift.specs.Level.{analysed, first_doubled, column, columns_by, doubled, row_in, rows_by}
use Rattle.dirac_lift.specs.Lifting.{own}
use Rattle.dirac_lift.specs.Wavelets.{analyse, has_shift, run, steps_of, taken_back}
use Rattle.dirac_lift.proofs.ColumnLemmas.{column_at}
use Rattle.dirac_lift.proofs.HalfPlanes.{column_halves, filled_len, place_even, place_in, place_odd}
use Rattle.dirac_lift.proofs.LevelLemmas.{begun_bound, length-begun}
use Rattle.dirac_lift.proofs.RowLemmas.{length-row, row_bound}
use Rattle.dirac_lift.proofs.Runs.{analyse_grows, by_wavelet}

-- 32 bits are enough for rows of values of at most 4095 that may have been doubled
pub back_narrow_rows : (w : ℕ) → w ≤ 6 → stays_narrow (taken_back (steps_of w)) (8190, 8190) ≡ true
back_narrow_rows = by_wavelet (λ w ss. stays_narrow (taken_back ss) (8190, 8190) ≡ true) refl refl refl refl refl refl refl

-- and then for the columns, whose values are at most analyse_bound 8190
pub back_narrow_columns : (w : ℕ) → w ≤ 6 → stays_narrow (taken_back (steps_of w)) (65523, 65523) ≡ true
back_narrow_columns = by_wavelet (λ w ss. stays_narrow (taken_back ss) (65523, 65523) ≡ true) refl refl refl refl refl refl refl

pub back_narrow : (k b w h : ℕ) (es os : List ℤ) → stays_narrow (taken_back (steps_of k)) (b, b) ≡ true → 0 < w → length es ≡ w * h → length os ≡ w * h → All (λ v. unsigned_abs v ≤ b) es → All (λ v. unsigned_abs v ≤ b) os → AreNarrow (taken_back (steps_of k)) w h es os
back_narrow k b w h es os test some le lo he ho = record {
  some = some;
  evens_len = le;
  odds_len = lo;
  most = (b, b);
  even_bound = he;
  odd_bound = ho;
  test = test;
}

-- a value that an analysis begins with
doubled_at : (xs : List ℤ) (i : ℕ) → get_or (map doubled xs) i (pos 0) ≡ doubled (get_or xs i (pos 0))
doubled_at [] i = refl
doubled_at (v ∷ xs) zero = refl
doubled_at (v ∷ xs) (suc i) = doubled_at xs i

begun_with : (s : Bool) (xs : List ℤ) (i : ℕ) → get_or (if s then map doubled xs else xs) i (pos 0) ≡ (if s then doubled (get_or xs i (pos 0)) else get_or xs i (pos 0))
begun_with true xs i = doubled_at xs i
begun_with false xs i = refl

pub begun_at : (k : ℕ) (s : Bool) (xs : List ℤ) (i : ℕ) → s ≡ has_shift k → (if s then doubled (get_or xs i (pos 0)) else get_or xs i (pos 0)) ≡ get_or (first_doubled k xs) i (pos 0)
begun_at k s xs i e =
    ap (λ t. if t then doubled (get_or xs i (pos 0)) else get_or xs i (pos 0)) e ∙ sym (begun_with (has_shift k) xs i)

row_begun : (s : Bool) (xs : List ℤ) (w y : ℕ) → (if s then map doubled (row_in xs w y) else row_in xs w y) ≡ row_in (if s then map doubled xs else xs) w y
row_begun true xs w y =
    sym (ap (take (y * w + w - y * w)) (drop-map doubled (y * w) xs) ∙ take-map doubled (y * w + w - y * w) (drop (y * w) xs))
row_begun false xs w y = refl

begun_row : (k : ℕ) (xs : List ℤ) (w y : ℕ) → first_doubled k (row_in xs w y) ≡ row_in (first_doubled k xs) w y
begun_row k = row_begun (has_shift k)

-- a value of a row by the line that it has the halves of
pub row_from_halves : (w half x : ℕ) (row line : List ℤ) → half ≡ w / 2 → AreHalvesOfLine 0 (take half row) (drop half row) line → get_or row x (pos 0) ≡ get_or line (column_of w x) (pos 0)
row_from_halves w half x row line e a = elim (cases_lt x half) [
  | inl inside ↦
      let place : own 0 x ≡ 2 * x = omega arith in
      rw (lt-ltb x (w / 2) (omega (arith, inside, e)))
      (sym (get_or-take half row x (pos 0) inside) ∙ sym (a.changed x) ∙ ap (λ i. get_or line i (pos 0)) place)
  | inr past ↦
      let place : x ≡ half + (x - half) = omega (arith, past) in
      rw (le-ltb x (w / 2) (omega (arith, past, e)))
      (ap (λ i. get_or row i (pos 0)) place ∙ sym (get_or-drop half row (x - half) (pos 0)) ∙ sym (a.read (x - half)) ∙ ap (λ h. get_or line (2 * (x - h) + 1) (pos 0)) e)
]

pub column_place : (w x : ℕ) → x < w → w % 2 ≡ 0 → column_of w (place_in_halves w x) ≡ x
column_place w x l wide = elim (cases_eq (x % 2) 0) [
  | inl even ↦
      ap (column_of w) (place_even w (x / 2) x (omega (arith, even)))
      ∙ rw (lt-ltb (x / 2) (w / 2) (omega (arith, l, even, wide))) (omega (arith, even))
  | inr odd ↦
      ap (column_of w) (place_odd w (x / 2) x (omega (arith, odd)))
      ∙ rw (le-ltb (w / 2 + x / 2) (w / 2) (omega arith)) (omega (arith, odd))
]

-- the rows of a level, by those that are analysed into their halves
level_row : (k first : ℕ) (t : Table) (x y : ℕ) → x < t.width → t.width % 2 ≡ 0 → y % 2 ≡ first → y < 2 * (t.height / 2) → get_or (analysed_rows k first t).values (y / 2 * t.width + place_in_halves t.width x) (pos 0) ≡ get_or (analyse k (row_in (first_doubled k t.values) t.width y)) x (pos 0)
level_row k first t x y l even half inside =
    let place : 2 * (y / 2) + first ≡ y = omega (arith, half) in
    filled_at (λ x y. get_or (analyse k (first_doubled k (row_in t.values t.width (2 * y + first)))) (column_of t.width x) (pos 0)) t.width (t.height / 2) (place_in_halves t.width x) (y / 2) (place_in t.width x l even) (omega (arith, inside))
    ∙ ap (λ i. get_or (analyse k (first_doubled k (row_in t.values t.width (2 * (y / 2) + first)))) i (pos 0)) (column_place t.width x l even)
    ∙ ap (λ i. get_or (analyse k (first_doubled k (row_in t.values t.width i))) x (pos 0)) place
    ∙ ap (λ zs. get_or (analyse k zs) x (pos 0)) (begun_row k t.values t.width y)

abbrev rows_of : ℕ → Table → Table
rows_of k t = rows_by (analyse k) (record t { values = first_doubled k t.values })

level_rows : (k : ℕ) (t : Table) → t.width % 2 ≡ 0 → t.height % 2 ≡ 0 → 0 < t.width → from_halves t.width (t.height / 2) (analysed_rows k 0 t).values (analysed_rows k 1 t).values ≡ rows_of k t
level_rows k t across down some =
    let es = (analysed_rows k 0 t).values in
    let os = (analysed_rows k 1 t).values in
    rows_all (λ x y. get_or (analyse k (row_in (first_doubled k t.values) t.width y)) x (pos 0)) (from_halves t.width (t.height / 2) es os) t.width t.height t.height refl (omega (arith, down)) some (omega arith)
    (record {
      len = filled_len t.width (2 * (t.height / 2)) (λ x y. get_or (if y % 2 == 0 then es else os) (y / 2 * t.width + place_in_halves t.width x) (pos 0));
      done = λ x y l below.
          let inside : y < 2 * (t.height / 2) = omega (arith, below, down) in
          filled_at (λ x y. get_or (if y % 2 == 0 then es else os) (y / 2 * t.width + place_in_halves t.width x) (pos 0)) t.width (2 * (t.height / 2)) x y l inside
          ∙ elim (cases_eq (y % 2) 0) [
            | inl even ↦ rw (eq-eqb (y % 2) 0 even) (level_row k 0 t x y l across even inside)
            | inr odd ↦ rw (ne_eqb (y % 2) 0 odd) (level_row k 1 t x y l across (omega (arith, odd)) inside)
          ];
    })

-- the columns of a level
column_ran : (k w h : ℕ) (es os new_es new_os : List ℤ) (x : ℕ) → HalvesRun (taken_back (steps_of k)) w h es os new_es new_os → x < w → w % 2 ≡ 0 → AreHalvesOfLine 0 (column new_es w h (place_in_halves w x)) (column new_os w h (place_in_halves w x)) (analyse k (column (from_halves w h es os).values w (2 * h) x))
unfolding analyse
column_ran k w h es os new_es new_os x r l even =
    r.each (place_in_halves w x) (column (from_halves w h es os).values w (2 * h) x) (place_in w x l even) (column_halves w h es os x l)

level_columns : (k w h : ℕ) (es os new_es new_os : List ℤ) → HalvesRun (taken_back (steps_of k)) w h es os new_es new_os → w % 2 ≡ 0 → 0 < w → columns_by (analyse k) (from_halves w h es os) ≡ from_halves w h new_es new_os
level_columns k w h es os new_es new_os r across some =
    let f : ℕ → ℕ → ℤ = λ x y. get_or (analyse k (column (from_halves w h es os).values w (2 * h) x)) y (pos 0) in
    rows_all (λ x y. get_or (if y % 2 == 0 then new_es else new_os) (y / 2 * w + place_in_halves w x) (pos 0)) (columns_by (analyse k) (from_halves w h es os)) w (2 * h) (2 * h) refl refl some (omega arith)
    (record {
      len = filled_len w (2 * h) f;
      done = λ x y l inside.
          let ran = column_ran k w h es os new_es new_os x r l across in
          let line = analyse k (column (from_halves w h es os).values w (2 * h) x) in
          filled_at f w (2 * h) x y l inside
          ∙ elim (cases_eq (y % 2) 0) [
            | inl even ↦
                let place : y ≡ own 0 (y / 2) = omega (arith, even) in
                rw (eq-eqb (y % 2) 0 even)
                (ap (λ i. get_or line i (pos 0)) place ∙ ran.changed (y / 2) ∙ column_at new_es w h (place_in_halves w x) (y / 2) (omega (arith, inside)))
            | inr odd ↦
                let place : y ≡ 2 * (y / 2) + 1 = omega (arith, odd) in
                rw (ne_eqb (y % 2) 0 odd)
                (ap (λ i. get_or line i (pos 0)) place ∙ ran.read (y / 2) ∙ column_at new_os w h (place_in_halves w x) (y / 2) (omega (arith, inside)))
          ];
    })

-- the whole level
pub level_in_halves : (k w h : ℕ) (t : Table) (es os new_es new_os : List ℤ) → w ≡ t.width → h ≡ t.height / 2 → es ≡ (analysed_rows k 0 t).values → os ≡ (analysed_rows k 1 t).values → HalvesRun (taken_back (steps_of k)) w h es os new_es new_os → t.width % 2 ≡ 0 → t.height % 2 ≡ 0 → 0 < t.width
    → from_halves t.width (t.height / 2) new_es new_os ≡ analysed k t
level_in_halves k w h t es os new_es new_os ew eh ee eo r across down some =
    let ran : HalvesRun (taken_back (steps_of k)) t.width (t.height / 2) es os new_es new_os =
    subst (λ i. HalvesRun (taken_back (steps_of k)) i (t.height / 2) es os new_es new_os) ew (subst (λ j. HalvesRun (taken_back (steps_of k)) w j es os new_es new_os) eh r) in
    sym (level_columns k t.width (t.height / 2) es os new_es new_os ran across some)
    ∙ ap (λ zs. columns_by (analyse k) (from_halves t.width (t.height / 2) zs os)) ee
    ∙ ap (λ zs. columns_by (analyse k) (from_halves t.width (t.height / 2) (analysed_rows k 0 t).values zs)) eo
    ∙ ap (columns_by (analyse k)) (level_rows k t across down some)

-- how large the rows become
told_within : (b w h : ℕ) (f : ℕ → ℕ → ℤ) → 0 < w → ((x y : ℕ) → y < h → unsigned_abs (f x y) ≤ b) → All (λ v. unsigned_abs v ≤ b) (filled w h f)
unfolding filled
told_within b w h f some each k d l =
    let inside : k < w * h = omega (arith, l, length-map-range_with_len (λ p. f (p % w) (p / w)) 0 (w * h)) in
    rw (get_or-map-range_with_len (λ p. f (p % w) (p / w)) 0 (w * h) k k d inside (omega arith)) (each (k % w) (k / w) (div_below k w h some (omega (arith, inside))))

pub rows_small : (k first : ℕ) (t : Table) → k ≤ 6 → first ≤ 1 → t.width % 2 ≡ 0 → t.height % 2 ≡ 0 → 0 < t.width → length t.values ≡ t.width * t.height → All (λ v. unsigned_abs v ≤ 4095) t.values → All (λ v. unsigned_abs v ≤ 65523) (analysed_rows k first t).values
unfolding analyse
rows_small k first t l one across down some len all =
    told_within 65523 t.width (t.height / 2) (λ x y. get_or (analyse k (first_doubled k (row_in t.values t.width (2 * y + first)))) (column_of t.width x) (pos 0)) some (λ x y inside.
    let row = row_in t.values t.width (2 * y + first) in
    let size : length (first_doubled k row) ≡ t.width = length-begun k row ∙ length-row t.values t.width t.height (2 * y + first) len (omega (arith, inside, down, one)) in
    values_bound 65523 (run (taken_back (steps_of k)) (first_doubled k row))
    (analyse_grows k 8190 (first_doubled k row) l (omega (arith, size, across)) (begun_bound k 4095 row (row_bound 4095 t.values t.width (2 * y + first) all)))
    (column_of t.width x))
