-- A level whose rows come to rings and leave them.
use Rattle.std.proofs.Common.{◌≡◌, ℕ, ℤ, pos, true, ◌+◌, ◌-◌, ◌*◌, ◌/◌, ◌%◌, ◌<◌, ◌≤◌, List, length, get_or, take, drop, unsigned_abs, arith, refl, inl, inr, ap, sym, ◌∙◌}
use Rattle.std.specs.List.{All}
use Rattle.std.proofs.lemmas.Bool.{cases_lt, le-ltb, lt-ltb}
use Rattle.std.proofs.lemmas.List.{get_or_past}
use borrow.Rule.Slice.PartMut.{put_mid}
use Rattle.dirac_common.proofs.Rows.{filled_at}
use Rattle.dirac_lift.specs.AtWork.{lines_of}
use Rattle.dirac_lift.specs.ByLines.{longest_wait, turns}
use Rattle.dirac_lift.specs.HalfRows.{column_of}
use Rattle.dirac_lift.specs.HalfRuns.{AreNarrow, after_steps, stays_narrow}
use Rattle.dirac_lift.specs.Halves.{AreHalvesOfLine, from_halves, place_in_halves}
use Rattle.dirac_lift.specs.Lanes.{RunPut}
use Rattle.dirac_lift.specs.Level.{column, last_halved, row_in}
use Rattle.dirac_lift.specs.Lifting.{own}
use Rattle.dirac_lift.specs.Rings.{AfterTurns, AreNarrowLines, RingsHold, RowCame, most_of, steps_to_come}
use Rattle.dirac_lift.specs.Wavelets.{steps_of, synth}
use Rattle.dirac_lift.proofs.ColumnLemmas.{column_at, length-column}
use Rattle.dirac_lift.proofs.HalfAnalysis.{column_place}
use Rattle.dirac_lift.proofs.HalfLemmas.{abs-read}
use Rattle.dirac_lift.proofs.HalfPlanes.{even_place, filled_len, level_at, lifted_columns, line_at, odd_place, place_even, place_in, place_odd, row_halves, row_narrow}
use Rattle.dirac_lift.proofs.RingRows.{run_bound, slot_kept}
use Rattle.dirac_lift.proofs.RowLemmas.{length-row, run_copied}
use Rattle.dirac_lift.proofs.Runs.{by_wavelet}
use Rattle.dirac_lift.proofs.TurnBounds.{row_finished, row_fresh}

-- the columns by their places in a row of halves
pub column_in : (w p : ℕ) → p < w → w % 2 ≡ 0 → column_of w p < w
column_in w p l even = elim (cases_lt p (w / 2)) [
  | inl inside ↦ rw (lt-ltb p (w / 2) inside) (omega (arith, inside))
  | inr past ↦ rw (le-ltb p (w / 2) past) (omega (arith, past, l, even))
]

pub place_column : (w p : ℕ) → p < w → w % 2 ≡ 0 → place_in_halves w (column_of w p) ≡ p
place_column w p l even = elim (cases_lt p (w / 2)) [
  | inl inside ↦ rw (lt-ltb p (w / 2) inside) (place_even w p (2 * p) refl)
  | inr past ↦ rw (le-ltb p (w / 2) past) (place_odd w (p - w / 2) (2 * (p - w / 2) + 1) refl ∙ omega (arith, past))
]

pub lines_len : (w h : ℕ) (es os : List ℤ) (p : ℕ) → length (lines_of w h es os p) ≡ 2 * h
lines_len w h es os p = length-column (from_halves w h es os).values w (2 * h) (column_of w p)

line_even : (w h : ℕ) (es os : List ℤ) (n p : ℕ) → p < w → n < h → w % 2 ≡ 0 → get_or (lines_of w h es os p) (2 * n) (pos 0) ≡ get_or es (n * w + p) (pos 0)
line_even w h es os n p l inside even =
    column_at (from_halves w h es os).values w (2 * h) (column_of w p) (2 * n) (omega (arith, inside))
    ∙ even_place w h es os (column_of w p) n (column_in w p l even) inside
    ∙ ap (λ i. get_or es (n * w + i) (pos 0)) (place_column w p l even)

line_odd : (w h : ℕ) (es os : List ℤ) (n p : ℕ) → p < w → n < h → w % 2 ≡ 0 → get_or (lines_of w h es os p) (2 * n + 1) (pos 0) ≡ get_or os (n * w + p) (pos 0)
line_odd w h es os n p l inside even =
    column_at (from_halves w h es os).values w (2 * h) (column_of w p) (2 * n + 1) (omega (arith, inside))
    ∙ odd_place w h es os (column_of w p) n (column_in w p l even) inside
    ∙ ap (λ i. get_or os (n * w + i) (pos 0)) (place_column w p l even)

pub lines_narrow : (w h : ℕ) (es os : List ℤ) → w % 2 ≡ 0 → All (λ v. unsigned_abs v ≤ 4095) es → All (λ v. unsigned_abs v ≤ 4095) os → AreNarrowLines w (lines_of w h es os)
lines_narrow w h es os even he ho = record {
  evens = λ x l n. elim (cases_lt n h) [
    | inl inside ↦
        let place : 2 * n + 0 ≡ 2 * n = omega arith in
        rw (place, line_even w h es os n x l inside even) (abs-read 4095 es (n * w + x) he)
    | inr past ↦ rw (get_or_past (lines_of w h es os x) (2 * n + 0) (pos 0) (omega (arith, past, lines_len w h es os x))) (omega arith)
  ];
  odds = λ x l n. elim (cases_lt n h) [
    | inl inside ↦ rw (line_odd w h es os n x l inside even) (abs-read 4095 os (n * w + x) ho)
    | inr past ↦ rw (get_or_past (lines_of w h es os x) (2 * n + 1) (pos 0) (omega (arith, past, lines_len w h es os x))) (omega arith)
  ];
}

-- rings that hold no row yet
pub holds_none : (k w h : ℕ) (es os evens odds : List ℤ) → length evens ≡ w * 16 → length odds ≡ w * 16 → AfterTurns k w h 0 0 (lines_of w h es os) evens odds
holds_none k w h es os evens odds le lo = record {
  owns_len = le;
  reads_len = lo;
  lens = λ x l. lines_len w h es os x;
  changed = λ n x a b c d. absurd (omega (arith, b));
  read = λ n x a b c d. absurd (omega (arith, b));
}

-- a row that comes to a ring
came_place : (w h m : ℕ) (rows ring after : List ℤ) (n x : ℕ) → RowCame w h m rows ring after → m + 1 - 16 ≤ n → n < m → n < h → x < w → get_or after ((n % 16) * w + x) (pos 0) ≡ get_or ring ((n % 16) * w + x) (pos 0)
came_place w h m rows ring after n x r a b c d = elim (cases_lt m h) [
  | inl inside ↦ slot_kept w (m % 16) (n % 16) x _ ring after (r.busy inside) (λ e. omega (arith, e, a, b)) d
  | inr past ↦ ap (λ zs. get_or zs ((n % 16) * w + x) (pos 0)) (r.idle past)
]

came_len : (w h m : ℕ) (rows ring after : List ℤ) → RowCame w h m rows ring after → length after ≡ length ring
came_len w h m rows ring after r = elim (cases_lt m h) [
  | inl inside ↦ (r.busy inside).len
  | inr past ↦ ap length (r.idle past)
]

pub came_holds : (k w h m : ℕ) (es os evens odds new_evens new_odds : List ℤ) → k ≤ 6 → w % 2 ≡ 0 → AfterTurns k w h m m (lines_of w h es os) evens odds → RowCame w h m es evens new_evens → RowCame w h m os odds new_odds → AfterTurns k w h m (m + 1) (lines_of w h es os) new_evens new_odds
came_holds k w h m es os evens odds new_evens new_odds l even r ce co = record {
  owns_len = came_len w h m es evens new_evens ce ∙ r.owns_len;
  reads_len = came_len w h m os odds new_odds co ∙ r.reads_len;
  lens = r.lens;
  changed = λ n x a b c d. elim (cases_lt n m) [
    | inl before ↦ came_place w h m es evens new_evens n x ce a before c d ∙ r.changed n x (omega (arith, a)) before c d
    | inr from ↦
        let here : n ≡ m = omega (arith, from, b) in
        let place : 2 * m ≡ own 0 m = omega arith in
        let inside : m < h = omega (arith, here, c) in
        rw here ((ce.busy inside).inside x d
        ∙ sym (line_even w h es os m x d inside even)
        ∙ ap (λ i. get_or (lines_of w h es os x) i (pos 0)) place
        ∙ sym (row_fresh k m (own 0 m) (lines_of w h es os x) l (omega arith)))
  ];
  read = λ n x a b c d. elim (cases_lt n m) [
    | inl before ↦ came_place w h m os odds new_odds n x co a before c d ∙ r.read n x (omega (arith, a)) before c d
    | inr from ↦
        let here : n ≡ m = omega (arith, from, b) in
        let inside : m < h = omega (arith, here, c) in
        rw here ((co.busy inside).inside x d
        ∙ sym (line_odd w h es os m x d inside even)
        ∙ sym (row_fresh k m (2 * m + 1) (lines_of w h es os x) l (omega arith)))
  ];
}

pub turn_holds : (k w h m : ℕ) (es os evens odds came_evens came_odds new_evens new_odds : List ℤ) → k ≤ 6 → w % 2 ≡ 0 → All (λ v. unsigned_abs v ≤ 4095) es → All (λ v. unsigned_abs v ≤ 4095) os → AfterTurns k w h m m (lines_of w h es os) evens odds → RowCame w h m es evens came_evens → RowCame w h m os odds came_odds
    → ((lines : ℕ → List ℤ) → AreNarrowLines w lines → AfterTurns k w h m (m + 1) lines came_evens came_odds → AfterTurns k w h (m + 1) (m + 1) lines new_evens new_odds)
    → AfterTurns k w h (m + 1) (m + 1) (lines_of w h es os) new_evens new_odds
turn_holds k w h m es os evens odds came_evens came_odds new_evens new_odds l even he ho r ce co turned =
    turned (lines_of w h es os) (lines_narrow w h es os even he ho) (came_holds k w h m es os evens odds came_evens came_odds l even r ce co)

-- how large the values of rings are
pub most_least : (k : ℕ) → k ≤ 6 → (4095 ≤ (most_of k).0) × (4095 ≤ (most_of k).1)
most_least = by_wavelet (λ w ss. (4095 ≤ (after_steps ss (4095, 4095)).0) × (4095 ≤ (after_steps ss (4095, 4095)).1))
    (omega arith, omega arith) (omega arith, omega arith) (omega arith, omega arith) (omega arith, omega arith) (omega arith, omega arith) (omega arith, omega arith) (omega arith, omega arith)

pub came_bound : (b w h m : ℕ) (rows ring after : List ℤ) → RowCame w h m rows ring after → 4095 ≤ b → All (λ v. unsigned_abs v ≤ 4095) rows → All (λ v. unsigned_abs v ≤ b) ring → All (λ v. unsigned_abs v ≤ b) after
came_bound b w h m rows ring after r least small all = elim (cases_lt m h) [
  | inl inside ↦ run_bound b ((m % 16) * w) w _ ring after (r.busy inside) all (λ j jl. omega (arith, least, abs-read 4095 rows (m * w + j) small))
  | inr past ↦ rw (r.idle past) all
]

pub row_put : (w s n k : ℕ) (rows ring ws : List ℤ) → s * w + w ≤ length ring → n * w + w ≤ length rows → k ≡ w → ws ≡ row_in rows w n → RunPut (s * w) w (λ x. get_or rows (n * w + x) (pos 0)) ring (put_mid (s * w) k ring ws)
row_put w s n k rows ring ws room enough ek e =
    run_copied (s * w) w (n * w) k (n * w + w - n * w) ring ws rows room enough ek (omega arith) e

-- rows that leave the rings: even ones, or with p = 1 odd ones
left : (p k w h m n x : ℕ) (es os ring others : List ℤ) → k ≤ 6 → p ≤ 1 → w % 2 ≡ 0 → RingsHold p w h (m + 1 - 16) (m + 1) (λ x. turns (steps_to_come k) (m + 1) (lines_of w h es os x)) ring others → m + 1 - 16 ≤ n → n + longest_wait (steps_to_come k) ≤ m → n < h → x < w
    → get_or (lifted_columns k w h es os).values ((2 * n + p) * w + x) (pos 0) ≡ get_or ring ((n % 16) * w + place_in_halves w x) (pos 0)
left p k w h m n x es os ring others l one even r lo late inside d =
    let ps = (from_halves w h es os).values in
    let q = place_in_halves w x in
    let line : lines_of w h es os q ≡ column ps w (2 * h) x = ap (column ps w (2 * h)) (column_place w x d even) in
    filled_at (λ x y. get_or (synth k (column ps w (2 * h) x)) y (pos 0)) w (2 * h) x (2 * n + p) d (omega (arith, inside, one))
    ∙ ap (λ zs. get_or (synth k zs) (2 * n + p) (pos 0)) (sym line)
    ∙ sym (row_finished k (m + 1) (2 * n + p) (lines_of w h es os q) l (omega (arith, lines_len w h es os q)) (omega (arith, late, one)))
    ∙ sym (r.changed n q lo (omega (arith, late)) inside (place_in w x d even))

-- a row of the level, from one of a ring
pub row_from_ring : (p k w h m n x : ℕ) (es os ring others line : List ℤ) → k ≤ 6 → p ≤ 1 → w % 2 ≡ 0 → RingsHold p w h (m + 1 - 16) (m + 1) (λ x. turns (steps_to_come k) (m + 1) (lines_of w h es os x)) ring others → m + 1 - 16 ≤ n → n + longest_wait (steps_to_come k) ≤ m → n < h
    → ((whole : List ℤ) → AreHalvesOfLine 0 (take (w / 2) (row_in ring w (n % 16))) (drop (w / 2) (row_in ring w (n % 16))) whole → line ≡ last_halved k (synth k whole))
    → get_or line x (pos 0) ≡ level_at k w h es os x (2 * n + p)
row_from_ring p k w h m n x es os ring others line l one even r lo late inside each =
    let ps = (lifted_columns k w h es os).values in
    let y : 2 * n + p < 2 * h = omega (arith, inside, one) in
    let whole : length ps ≡ w * (2 * h) = filled_len w (2 * h) (λ x y. get_or (synth k (column (from_halves w h es os).values w (2 * h) x)) y (pos 0)) in
    line_at k w h (2 * n + p) x es os line (take (w / 2) (row_in ring w (n % 16))) (drop (w / 2) (row_in ring w (n % 16))) each
    (row_halves w ps ring (n % 16) (2 * n + p) even (length-row ps w (2 * h) (2 * n + p) whole y) (length-row ring w 16 (n % 16) r.owns_len (omega arith)) (λ i il. left p k w h m n i es os ring others l one even r lo late inside il))

-- 32 bits are enough for it
pub ring_narrow : (k w n e : ℕ) (ring : List ℤ) → stays_narrow (steps_of k) (e, e) ≡ true → w % 2 ≡ 0 → 0 < w → length ring ≡ w * 16 → All (λ v. unsigned_abs v ≤ e) ring → AreNarrow (steps_of k) 1 (w / 2) (take (w / 2) (row_in ring w (n % 16))) (drop (w / 2) (row_in ring w (n % 16)))
ring_narrow k w n e ring test even some len all = row_narrow k w (n % 16) e ring test even some (length-row ring w 16 (n % 16) len (omega arith)) all
