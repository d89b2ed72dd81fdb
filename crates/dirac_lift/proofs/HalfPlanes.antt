-- Planes whose rows stand in halves.
use Rattle.std.proofs.Common.{◌≡◌, ◌≢◌, ℕ, ℤ, pos, zero, suc, Bool, true, false, if◌then◌else◌, ◌==◌, ◌+◌, ◌*◌, ◌/◌, ◌%◌, ◌<◌, ◌≤◌, List, [], ◌∷◌, length, map, get_or, take, drop, arith, refl, inl, inr, ap, sym, ◌∙◌, eq-eqb, length-drop, unsigned_abs}
use Rattle.std.specs.List.{All, range_with_len}
use Rattle.std.proofs.lemmas.Bool.{cases_eq, cases_lt, ne_eqb}
use Rattle.std.proofs.lemmas.List.{get_or-take, get_or-drop, get_or_past, length-take-le}
use Rattle.std.proofs.lemmas.List.Elements.{All-take, All-drop}
use Rattle.std.proofs.lemmas.List.FromFn.{length-map-range_with_len}
use Rattle.std.proofs.lemmas.Simd.{map-map}
use Rattle.dirac_common.specs.Table.{Table, filled, table_of}
use Rattle.dirac_common.proofs.Rows.{filled_at}
use Rattle.dirac_lift.specs.Halves.{AreHalvesOfLine, from_halves, place_in_halves}
use Rattle.dirac_lift.specs.HalfRuns.{AreNarrow, stays_narrow}
use Rattle.dirac_lift.specs.Level.{column, columns_by, last_halved, halved, row_in, synthesised}
use Rattle.dirac_lift.specs.Lifting.{own}
use Rattle.dirac_lift.specs.Wavelets.{has_shift, steps_of, synth}
use Rattle.dirac_lift.proofs.ColumnLemmas.{column_at, length-column}
use Rattle.dirac_lift.proofs.RowLemmas.{row_at, row_bound}

pub place_even : (w m x : ℕ) → x ≡ 2 * m → place_in_halves w x ≡ m
place_even w m x e =
    let rem : x % 2 ≡ 0 = omega (arith, e) in
    let quot : x / 2 ≡ m = omega (arith, e) in
    rw (eq-eqb (x % 2) 0 rem) quot

pub place_odd : (w m x : ℕ) → x ≡ 2 * m + 1 → place_in_halves w x ≡ w / 2 + m
place_odd w m x e =
    let rem : x % 2 ≢ 0 = λ z. omega (arith, e, z) in
    let quot : x / 2 ≡ m = omega (arith, e) in
    rw (ne_eqb (x % 2) 0 rem) (ap (λ i. w / 2 + i) quot)

pub place_in : (w x : ℕ) → x < w → w % 2 ≡ 0 → place_in_halves w x < w
place_in w x l even = elim (cases_eq (x % 2) 0) [
  | inl none ↦ rw (eq-eqb (x % 2) 0 none) (omega (arith, l))
  | inr one ↦ rw (ne_eqb (x % 2) 0 one) (omega (arith, l, even, one))
]

-- the values of such a plane
pub even_place : (w h : ℕ) (es os : List ℤ) (x n : ℕ) → x < w → n < h → get_or (from_halves w h es os).values ((2 * n) * w + x) (pos 0) ≡ get_or es (n * w + place_in_halves w x) (pos 0)
even_place w h es os x n l k =
    let rem : (2 * n) % 2 ≡ 0 = omega arith in
    let quot : (2 * n) / 2 ≡ n = omega arith in
    filled_at (λ x y. get_or (if y % 2 == 0 then es else os) (y / 2 * w + place_in_halves w x) (pos 0)) w (2 * h) x (2 * n) l (omega (arith, k))
    ∙ rw (eq-eqb ((2 * n) % 2) 0 rem, quot) refl

pub odd_place : (w h : ℕ) (es os : List ℤ) (x n : ℕ) → x < w → n < h → get_or (from_halves w h es os).values ((2 * n + 1) * w + x) (pos 0) ≡ get_or os (n * w + place_in_halves w x) (pos 0)
odd_place w h es os x n l k =
    let rem : (2 * n + 1) % 2 ≢ 0 = λ z. omega (arith, z) in
    let quot : (2 * n + 1) / 2 ≡ n = omega arith in
    filled_at (λ x y. get_or (if y % 2 == 0 then es else os) (y / 2 * w + place_in_halves w x) (pos 0)) w (2 * h) x (2 * n + 1) l (omega (arith, k))
    ∙ rw (ne_eqb ((2 * n + 1) % 2) 0 rem, quot) refl

-- its columns, by their halves
pub column_halves : (w h : ℕ) (es os : List ℤ) (x : ℕ) → x < w → AreHalvesOfLine 0 (column es w h (place_in_halves w x)) (column os w h (place_in_halves w x)) (column (from_halves w h es os).values w (2 * h) x)
column_halves w h es os x l =
    let ps = (from_halves w h es os).values in
    let p = place_in_halves w x in
    record {
      len = length-column ps w (2 * h) x ∙ ap (λ k. 2 * k) (sym (length-column es w h p));
      alike = length-column os w h p ∙ sym (length-column es w h p);
      changed = λ n. elim (cases_lt n h) [
        | inl inside ↦
            let place : own 0 n ≡ 2 * n = omega arith in
            ap (λ i. get_or (column ps w (2 * h) x) i (pos 0)) place
            ∙ column_at ps w (2 * h) x (2 * n) (omega (arith, inside))
            ∙ even_place w h es os x n l inside
            ∙ sym (column_at es w h p n inside)
        | inr past ↦
            get_or_past (column ps w (2 * h) x) (own 0 n) (pos 0) (omega (arith, past, length-column ps w (2 * h) x))
            ∙ sym (get_or_past (column es w h p) n (pos 0) (omega (arith, past, length-column es w h p)))
      ];
      read = λ n. elim (cases_lt n h) [
        | inl inside ↦
            column_at ps w (2 * h) x (2 * n + 1) (omega (arith, inside))
            ∙ odd_place w h es os x n l inside
            ∙ sym (column_at os w h p n inside)
        | inr past ↦
            get_or_past (column ps w (2 * h) x) (2 * n + 1) (pos 0) (omega (arith, past, length-column ps w (2 * h) x))
            ∙ sym (get_or_past (column os w h p) n (pos 0) (omega (arith, past, length-column os w h p)))
      ];
    }

-- the plane whose columns are synthesised
abbrev pub lifted_columns : ℕ → ℕ → ℕ → List ℤ → List ℤ → Table
lifted_columns k w h es os = columns_by (synth k) (from_halves w h es os)

-- a row by its halves
pub row_halves : (w : ℕ) (ps es : List ℤ) (n y : ℕ) → w % 2 ≡ 0 → length (row_in ps w y) ≡ w → length (row_in es w n) ≡ w → ((x : ℕ) → x < w → get_or ps (y * w + x) (pos 0) ≡ get_or es (n * w + place_in_halves w x) (pos 0)) → AreHalvesOfLine 0 (take (w / 2) (row_in es w n)) (drop (w / 2) (row_in es w n)) (row_in ps w y)
row_halves w ps es n y even lp le each =
    let front : length (take (w / 2) (row_in es w n)) ≡ w / 2 = length-take-le (w / 2) (row_in es w n) (omega (arith, le)) in
    let back : length (drop (w / 2) (row_in es w n)) ≡ w / 2 = omega (arith, length-drop (w / 2) (row_in es w n), le, even) in
    record {
      len = omega (arith, lp, front, even);
      alike = back ∙ sym front;
      changed = λ m. elim (cases_lt m (w / 2)) [
        | inl inside ↦
            row_at ps w y (own 0 m) (omega (arith, inside, even))
            ∙ each (own 0 m) (omega (arith, inside, even))
            ∙ ap (λ i. get_or es (n * w + i) (pos 0)) (place_even w m (own 0 m) (omega arith))
            ∙ sym (get_or-take (w / 2) (row_in es w n) m (pos 0) inside ∙ row_at es w n m (omega (arith, inside)))
        | inr past ↦
            get_or_past (row_in ps w y) (own 0 m) (pos 0) (omega (arith, past, lp, even))
            ∙ sym (get_or_past (take (w / 2) (row_in es w n)) m (pos 0) (omega (arith, past, front)))
      ];
      read = λ m. elim (cases_lt m (w / 2)) [
        | inl inside ↦
            row_at ps w y (2 * m + 1) (omega (arith, inside, even))
            ∙ each (2 * m + 1) (omega (arith, inside, even))
            ∙ ap (λ i. get_or es (n * w + i) (pos 0)) (place_odd w m (2 * m + 1) refl)
            ∙ sym (get_or-drop (w / 2) (row_in es w n) m (pos 0) ∙ row_at es w n (w / 2 + m) (omega (arith, inside, even)))
        | inr past ↦
            get_or_past (row_in ps w y) (2 * m + 1) (pos 0) (omega (arith, past, lp, even))
            ∙ sym (get_or_past (drop (w / 2) (row_in es w n)) m (pos 0) (omega (arith, past, back)))
      ];
    }

-- how a level ends a value
abbrev pub finished : ℕ → ℤ → ℤ
finished k v = if has_shift k then halved v else v

halved_at : (xs : List ℤ) (x : ℕ) → get_or (map halved xs) x (pos 0) ≡ halved (get_or xs x (pos 0))
halved_at [] x = refl
halved_at (v ∷ xs) zero = refl
halved_at (v ∷ xs) (suc x) = halved_at xs x

pub ended_with : (s : Bool) (xs : List ℤ) (x : ℕ) → get_or (if s then map halved xs else xs) x (pos 0) ≡ (if s then halved (get_or xs x (pos 0)) else get_or xs x (pos 0))
ended_with true xs x = halved_at xs x
ended_with false xs x = refl

pub filled_ended : (s : Bool) (w h : ℕ) (f : ℕ → ℕ → ℤ) → filled w h (λ x y. if s then halved (f x y) else f x y) ≡ (if s then map halved (filled w h f) else filled w h f)
unfolding filled
filled_ended true w h f = sym (map-map halved (λ p. f (p % w) (p / w)) (range_with_len 0 (w * h)))
filled_ended false w h f = refl

-- the value in column x of row y of a finished level
abbrev pub level_at : ℕ → ℕ → ℕ → List ℤ → List ℤ → ℕ → ℕ → ℤ
level_at k w h es os x y = finished k (get_or (synth k (row_in (lifted_columns k w h es os).values w y)) x (pos 0))

pub level_filled : (k w h : ℕ) (es os : List ℤ) → table_of w (2 * h) (level_at k w h es os) ≡ synthesised k (from_halves w h es os)
level_filled k w h es os =
    ap (λ (vs : List ℤ). record { width = w; height = 2 * h; values = vs })
    (filled_ended (has_shift k) w (2 * h) (λ x y. get_or (synth k (row_in (lifted_columns k w h es os).values w y)) x (pos 0)))

pub filled_len : (w h : ℕ) (f : ℕ → ℕ → ℤ) → length (filled w h f) ≡ w * h
unfolding filled
filled_len w h f = length-map-range_with_len (λ p. f (p % w) (p / w)) 0 (w * h)

-- a line that is finished from its halves is a row of the level
pub line_at : (k w h y x : ℕ) (es os line half_es half_os : List ℤ) → ((whole : List ℤ) → AreHalvesOfLine 0 half_es half_os whole → line ≡ last_halved k (synth k whole))
    → AreHalvesOfLine 0 half_es half_os (row_in (lifted_columns k w h es os).values w y)
    → get_or line x (pos 0) ≡ level_at k w h es os x y
line_at k w h y x es os line half_es half_os each a =
    ap (λ zs. get_or zs x (pos 0)) (each (row_in (lifted_columns k w h es os).values w y) a)
    ∙ ended_with (has_shift k) (synth k (row_in (lifted_columns k w h es os).values w y)) x

-- after the columns 32 bits are still enough for each row
pub row_narrow : (k w n e : ℕ) (es : List ℤ) → stays_narrow (steps_of k) (e, e) ≡ true → w % 2 ≡ 0 → 0 < w → length (row_in es w n) ≡ w → All (λ v. unsigned_abs v ≤ e) es → AreNarrow (steps_of k) 1 (w / 2) (take (w / 2) (row_in es w n)) (drop (w / 2) (row_in es w n))
row_narrow k w n e es test even some le all = record {
  some = omega arith;
  evens_len = length-take-le (w / 2) (row_in es w n) (omega (arith, le)) ∙ omega arith;
  odds_len = omega (arith, length-drop (w / 2) (row_in es w n), le, even);
  most = (e, e);
  even_bound = All-take (λ v. unsigned_abs v ≤ e) (w / 2) (row_in es w n) (row_bound e es w n all);
  odd_bound = All-drop (λ v. unsigned_abs v ≤ e) (w / 2) (row_in es w n) (row_bound e es w n all);
  test = test;
}
