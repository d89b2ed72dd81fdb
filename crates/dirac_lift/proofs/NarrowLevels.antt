-- A level in place in 32 bits: columns and rows are taken apart, lifted, and written back.
use Rattle.std.proofs.Common.{◌≡◌, ◌≢◌, ℕ, ℤ, pos, true, if◌then◌else◌, ◌+◌, ◌-◌, ◌*◌, ◌/◌, ◌%◌, ◌<◌, ◌≤◌, unsigned_abs, List, length, get_or, set, arith, refl, inl, inr, ap, sym, ◌∙◌, subst}
use Rattle.std.specs.List.{All}
use Rattle.std.proofs.lemmas.Bool.{cases_eq, cases_lt}
use Rattle.std.proofs.lemmas.List.{get_or-set_same, get_or-set_other, get_or_past, get_or_default, length-set, map-id}
use Rattle.std.proofs.lemmas.List.FromFn.{fill_by_all, get_or-map-range_with_len}
use Rattle.std.proofs.Math.Nat.{add-mul}
use Rattle.dirac_common.specs.Table.{filled}
use Rattle.dirac_bands.specs.DcSum.{by_rows}
use Rattle.dirac_lift.specs.Halves.{AreHalvesOfLine}
use Rattle.dirac_lift.specs.HalfRuns.{AreNarrow, IsNarrowLine, stays_narrow}
use Rattle.dirac_lift.specs.Level.{column, last_halved, halved, row_in, synthesised}
use Rattle.dirac_lift.specs.Lifting.{PlacesWithin, own, other}
use Rattle.dirac_lift.specs.Places.{ColumnsBecome, RowsBecome}
use Rattle.dirac_lift.specs.Wavelets.{has_shift, steps_of, synth}
use Rattle.dirac_lift.proofs.ColumnLemmas.{column-set_other, column-set_same, column_at, column_bound, columns_values, length-column}
use Rattle.dirac_lift.proofs.HalfBounds.{columns_narrow}
use Rattle.dirac_lift.proofs.HalfLemmas.{abs-read}
use Rattle.dirac_lift.proofs.HalfPlanes.{ended_with, filled_ended, filled_len}
use Rattle.dirac_lift.proofs.PairLemmas.{PairsPut, pairs_all, pairs_more, pairs_none}
use Rattle.dirac_lift.proofs.RowLemmas.{length-row, row_at, rows_values}
use Rattle.dirac_lift.proofs.Runs.{by_wavelet, parities_of, reach, run_within, within_from_all}

-- the pairs below n are taken apart
pub record TakenBelow (line low high : List ℤ) (n : ℕ) : Type 0 where
  pub even : (m : ℕ) → m < n → get_or low m (pos 0) ≡ get_or line (2 * m) (pos 0)
  pub odd : (m : ℕ) → m < n → get_or high m (pos 0) ≡ get_or line (2 * m + 1) (pos 0)

pub taken_more : (line low high : List ℤ) (n : ℕ) (a b : ℤ) → TakenBelow line low high n → n < length low → n < length high → a ≡ get_or line (2 * n) (pos 0) → b ≡ get_or line (2 * n + 1) (pos 0) → TakenBelow line (set low n a) (set high n b) (n + 1)
taken_more line low high n a b t l k ea eb = record {
  even = λ m lt. elim (cases_eq m n) [
    | inl here ↦ ap (λ i. get_or (set low n a) i (pos 0)) here ∙ get_or-set_same low n a (pos 0) l ∙ ea ∙ sym (ap (λ i. get_or line (2 * i) (pos 0)) here)
    | inr before ↦ get_or-set_other low n m a (pos 0) before ∙ t.even m (omega (arith, lt, before))
  ];
  odd = λ m lt. elim (cases_eq m n) [
    | inl here ↦ ap (λ i. get_or (set high n b) i (pos 0)) here ∙ get_or-set_same high n b (pos 0) k ∙ eb ∙ sym (ap (λ i. get_or line (2 * i + 1) (pos 0)) here)
    | inr before ↦ get_or-set_other high n m b (pos 0) before ∙ t.odd m (omega (arith, lt, before))
  ];
}

pub taken_none : (line low high : List ℤ) → TakenBelow line low high 0
taken_none line low high = record { even = λ m l. absurd (omega (arith, l)); odd = λ m l. absurd (omega (arith, l)) }

pub taken_all : (line low high : List ℤ) (n : ℕ) → TakenBelow line low high n → length line ≡ 2 * length low → length high ≡ length low → length low ≤ n → AreHalvesOfLine 0 low high line
taken_all line low high n t len alike all = record {
  len = len;
  alike = alike;
  changed = λ m. elim (cases_lt m (length low)) [
    | inl inside ↦
        let place : own 0 m ≡ 2 * m = omega arith in
        ap (λ i. get_or line i (pos 0)) place ∙ sym (t.even m (omega (arith, inside, all)))
    | inr past ↦ get_or_past line (own 0 m) (pos 0) (omega (arith, past, len)) ∙ sym (get_or_past low m (pos 0) past)
  ];
  read = λ m. elim (cases_lt m (length low)) [
    | inl inside ↦ sym (t.odd m (omega (arith, inside, all)))
    | inr past ↦ get_or_past line (2 * m + 1) (pos 0) (omega (arith, past, len)) ∙ sym (get_or_past high m (pos 0) (omega (arith, past, alike)))
  ];
}

-- halves of a line are as small as it
pub halves_bound : (b : ℕ) (low high line : List ℤ) → AreHalvesOfLine 0 low high line → All (λ v. unsigned_abs v ≤ b) line → All (λ v. unsigned_abs v ≤ b) low × All (λ v. unsigned_abs v ≤ b) high
halves_bound b low high line a all = (
  λ k d l. rw (get_or_default low k d (pos 0) l, ← a.changed k) (abs-read b line (own 0 k) all),
  λ k d l. rw (get_or_default high k d (pos 0) l, ← a.read k) (abs-read b line (other 0 k) all),
)

pub line_narrow : (k : ℕ) (low high line : List ℤ) → AreHalvesOfLine 0 low high line → IsNarrowLine k line → AreNarrow (steps_of k) 1 (length low) low high
line_narrow k low high line a n = record {
  some = omega arith;
  evens_len = omega arith;
  odds_len = omega (arith, a.alike);
  most = (n.most, n.most);
  even_bound = (halves_bound n.most low high line a n.bound).0;
  odd_bound = (halves_bound n.most low high line a n.bound).1;
  test = n.test;
}

-- the pairs of column x below n are written, and no other column
pub record ColumnPut (w h x : ℕ) (low high xs ys : List ℤ) (n : ℕ) : Type 0 where
  pub len : length ys ≡ length xs
  pub pairs : PairsPut (λ v. v) low high (column ys w h x) h n
  pub others : (z : ℕ) → z < w → z ≢ x → column ys w h z ≡ column xs w h z

pub put_none : (w h x : ℕ) (low high xs : List ℤ) → ColumnPut w h x low high xs xs 0
put_none w h x low high xs = record {
  len = refl;
  pairs = subst (λ size. PairsPut (λ v. v) low high (column xs w h x) size 0) (length-column xs w h x) (pairs_none (λ v. v) low high (column xs w h x));
  others = λ z l ne. refl;
}

pub put_more : (w h x n : ℕ) (low high xs ys : List ℤ) → ColumnPut w h x low high xs ys n → length xs ≡ w * h → x < w → 2 * n + 1 < h → ColumnPut w h x low high xs (set (set ys (2 * n * w + x) (get_or low n (pos 0))) (2 * n * w + x + w) (get_or high n (pos 0))) (n + 1)
put_more w h x n low high xs ys p len l inside =
    let a : ℤ = get_or low n (pos 0) in
    let b : ℤ = get_or high n (pos 0) in
    let ws : List ℤ = set ys (2 * n * w + x) a in
    let vs : List ℤ = set ws ((2 * n + 1) * w + x) b in
    let whole : length ys ≡ w * h = p.len ∙ len in
    let size : length ws ≡ length ys = length-set ys (2 * n * w + x) a in
    let next : 2 * n * w + x + w ≡ (2 * n + 1) * w + x = omega (arith, add-mul (2 * n) 1 w) in
    let here : column vs w h x ≡ set (set (column ys w h x) (2 * n) a) (2 * n + 1) b =
    column-set_same ws w h x (2 * n + 1) b (size ∙ whole) l inside ∙ ap (λ zs. set zs (2 * n + 1) b) (column-set_same ys w h x (2 * n) a whole l (omega (arith, inside))) in
    subst (λ (i : ℕ). ColumnPut w h x low high xs (set ws i b) (n + 1)) (sym next) (record {
      len = length-set ws ((2 * n + 1) * w + x) b ∙ size ∙ p.len;
      pairs = subst (λ zs. PairsPut (λ v. v) low high zs h (n + 1)) (sym here) (pairs_more (λ v. v) low high (column ys w h x) h n a b p.pairs inside refl refl);
      others = λ z zl ne. column-set_other ws w h x (2 * n + 1) z b l zl ne ∙ column-set_other ys w h x (2 * n) z a l zl ne ∙ p.others z zl ne;
    })

pub put_all : (w h x n : ℕ) (low high xs ys whole : List ℤ) → ColumnPut w h x low high xs ys n → h ≡ 2 * length low → length low ≤ n → AreHalvesOfLine 0 low high whole → column ys w h x ≡ whole
put_all w h x n low high xs ys whole p e all a = pairs_all (λ v. v) low high (column ys w h x) whole h n p.pairs e all a ∙ map-id whole

-- the columns below p are done
pub record ColumnsRan (k w h : ℕ) (xs ys : List ℤ) (p : ℕ) : Type 0 where
  pub len : length ys ≡ length xs
  pub done : (z : ℕ) → z < w → z < p → column ys w h z ≡ synth k (column xs w h z)
  pub rest : (z : ℕ) → z < w → p ≤ z → column ys w h z ≡ column xs w h z

pub ran_none : (k w h : ℕ) (xs : List ℤ) → ColumnsRan k w h xs xs 0
ran_none k w h xs = record { len = refl; done = λ z l q. absurd (omega (arith, q)); rest = λ z l q. refl }

pub ran_more : (k w h : ℕ) (xs ys zs : List ℤ) (p : ℕ) → ColumnsRan k w h xs ys p → p < w → length zs ≡ length ys → column zs w h p ≡ synth k (column ys w h p) → ((z : ℕ) → z < w → z ≢ p → column zs w h z ≡ column ys w h z) → ColumnsRan k w h xs zs (p + 1)
ran_more k w h xs ys zs p r l len here others = record {
  len = len ∙ r.len;
  done = λ z lz q. elim (cases_eq z p) [
    | inl last ↦ ap (column zs w h) last ∙ here ∙ ap (synth k) (r.rest p l (omega arith)) ∙ ap (λ i. synth k (column xs w h i)) (sym last)
    | inr before ↦ others z lz before ∙ r.done z lz (omega (arith, q, before))
  ];
  rest = λ z lz q. others z lz (λ e. omega (arith, e, q)) ∙ r.rest z lz (omega (arith, q));
}

pub ran_all : (k w h : ℕ) (xs ys : List ℤ) (p : ℕ) → ColumnsRan k w h xs ys p → w ≤ p → ColumnsBecome (synth k) w h xs ys
ran_all k w h xs ys p r all = record { len = r.len; each = λ x l. r.done x l (omega (arith, l, all)) }

-- the next column is still small
pub column_is_narrow : (k w h p : ℕ) (xs ys : List ℤ) → ColumnsRan k w h xs ys p → k ≤ 6 → p < w → All (λ v. unsigned_abs v ≤ 4095) xs → IsNarrowLine k (column ys w h p)
column_is_narrow k w h p xs ys r is l all = record {
  most = 4095;
  bound = subst (λ (zs : List ℤ). All (λ v. unsigned_abs v ≤ 4095) zs) (sym (r.rest p l (omega arith))) (column_bound 4095 xs w h p all);
  test = columns_narrow k is;
}

-- after the columns 32 bits are still enough
reach_narrow : (w : ℕ) → w ≤ 6 → (stays_narrow (steps_of w) ((reach (steps_of w) 4095 4095).0, (reach (steps_of w) 4095 4095).0) ≡ true) × (stays_narrow (steps_of w) ((reach (steps_of w) 4095 4095).1, (reach (steps_of w) 4095 4095).1) ≡ true)
reach_narrow = by_wavelet (λ w ss. (stays_narrow ss ((reach ss 4095 4095).0, (reach ss 4095 4095).0) ≡ true) × (stays_narrow ss ((reach ss 4095 4095).1, (reach ss 4095 4095).1) ≡ true))
    (refl, refl) (refl, refl) (refl, refl) (refl, refl) (refl, refl) (refl, refl) (refl, refl)

column_within : (k w h x : ℕ) (xs ys : List ℤ) → k ≤ 6 → h % 2 ≡ 0 → x < w → All (λ v. unsigned_abs v ≤ 4095) xs → ColumnsBecome (synth k) w h xs ys → PlacesWithin (reach (steps_of k) 4095 4095).0 0 (column ys w h x) × PlacesWithin (reach (steps_of k) 4095 4095).1 1 (column ys w h x)
unfolding synth
column_within k w h x xs ys l even lx all c =
    let small : All (λ v. unsigned_abs v ≤ 4095) (column xs w h x) = column_bound 4095 xs w h x all in
    subst (λ zs. PlacesWithin (reach (steps_of k) 4095 4095).0 0 zs × PlacesWithin (reach (steps_of k) 4095 4095).1 1 zs) (sym (c.each x lx))
    (run_within (steps_of k) 4095 4095 (column xs w h x) (parities_of k l) (omega (arith, even, length-column xs w h x)) (within_from_all 4095 0 (column xs w h x) small) (within_from_all 4095 1 (column xs w h x) small))

pub row_is_narrow : (k w h y : ℕ) (xs ys : List ℤ) → k ≤ 6 → h % 2 ≡ 0 → All (λ v. unsigned_abs v ≤ 4095) xs → length xs ≡ w * h → ColumnsBecome (synth k) w h xs ys → y < h → IsNarrowLine k (row_in ys w y)
row_is_narrow k w h y xs ys l even all len c ly = elim (cases_eq (y % 2) 0) [
  | inl mine ↦ record {
    most = (reach (steps_of k) 4095 4095).0;
    bound = λ i d li.
        let inside : i < w = omega (arith, li, length-row ys w h y (c.len ∙ len) ly) in
        let place : 2 * (y / 2) + 0 ≡ y = omega (arith, mine) in
        let here : unsigned_abs (get_or (column ys w h i) y (pos 0)) ≤ (reach (steps_of k) 4095 4095).0 =
        rw place at ((column_within k w h i xs ys l even inside all c).0 (y / 2)) in
        rw (get_or_default (row_in ys w y) i d (pos 0) li, row_at ys w y i inside) (rw (column_at ys w h i y ly) at here);
    test = (reach_narrow k l).0;
  }
  | inr its ↦ record {
    most = (reach (steps_of k) 4095 4095).1;
    bound = λ i d li.
        let inside : i < w = omega (arith, li, length-row ys w h y (c.len ∙ len) ly) in
        let place : 2 * (y / 2) + 1 ≡ y = omega (arith, its) in
        let here : unsigned_abs (get_or (column ys w h i) y (pos 0)) ≤ (reach (steps_of k) 4095 4095).1 =
        rw place at ((column_within k w h i xs ys l even inside all c).1 (y / 2)) in
        rw (get_or_default (row_in ys w y) i d (pos 0) li, row_at ys w y i inside) (rw (column_at ys w h i y ly) at here);
    test = (reach_narrow k l).1;
  }
]

-- the values of the level
filled_same : (w h : ℕ) (f g : ℕ → ℕ → ℤ) → ((x y : ℕ) → f x y ≡ g x y) → filled w h f ≡ filled w h g
unfolding filled
filled_same w h f g e =
    fill_by_all (λ p. g (p % w) (p / w)) (filled w h f) (w * h) (pos 0) (filled_len w h f) (λ p l.
    get_or-map-range_with_len (λ q. f (q % w) (q / w)) 0 (w * h) p p (pos 0) l (omega arith) ∙ e (p % w) (p / w))

pub narrow_value : (k w h : ℕ) (xs ys zs : List ℤ) → length xs ≡ w * h → 1 ≤ w → ColumnsBecome (synth k) w h xs ys → RowsBecome (λ line. last_halved k (synth k line)) w h ys zs → zs ≡ (synthesised k (by_rows w h xs)).values
narrow_value k w h xs ys zs len one columns rows =
    rows_values (λ line. last_halved k (synth k line)) w h ys zs rows (columns.len ∙ len) (omega arith)
    ∙ filled_same w h (λ x y. get_or (last_halved k (synth k (row_in ys w y))) x (pos 0)) (λ x y. if has_shift k then halved (get_or (synth k (row_in ys w y)) x (pos 0)) else get_or (synth k (row_in ys w y)) x (pos 0))
    (λ x y. ended_with (has_shift k) (synth k (row_in ys w y)) x)
    ∙ filled_ended (has_shift k) w h (λ x y. get_or (synth k (row_in ys w y)) x (pos 0))
    ∙ ap (λ vs. last_halved k (filled w h (λ x y. get_or (synth k (row_in vs w y)) x (pos 0)))) (columns_values (synth k) w h xs ys columns len (omega arith))
