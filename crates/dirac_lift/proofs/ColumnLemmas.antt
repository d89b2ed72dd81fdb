-- Columns of a plane whose values are changed one by one.
use Rattle.std.proofs.Common.{◌≡◌, ◌≢◌, ℕ, ℤ, pos, ◌+◌, ◌-◌, ◌*◌, ◌/◌, ◌%◌, ◌^◌, ◌<◌, ◌≤◌, unsigned_abs, List, length, get_or, set, arith, refl, inl, inr, ap, sym, ◌∙◌, subst}
use Rattle.std.specs.List.{All}
use Rattle.std.proofs.lemmas.List.{get_or-set_same, get_or-set_other, length-set, get_or_past, ext_get_or, get_or_default}
use Rattle.std.proofs.lemmas.List.FromFn.{fill_by_all, get_or-map-range_with_len, length-map-range_with_len}
use Rattle.std.proofs.lemmas.Nat.{mul-add-lt, same_from_place, div-add-mod', div_below, mod_below}
use Rattle.std.proofs.lemmas.Bool.{cases_lt, cases_eq}
use Rattle.dirac_common.specs.Table.{filled}
use Rattle.dirac_lift.specs.Level.{column}
use Rattle.dirac_lift.specs.Lifting.{Step, own, new_at, lift, PlacesWithin}
use Rattle.dirac_lift.specs.Places.{ColumnsBecome, ColumnsSmall}
use Rattle.dirac_lift.proofs.Lifted.{LiftedBelow, below_none, below_more, below_end}

pub length-column : (xs : List ℤ) (w h x : ℕ) → length (column xs w h x) ≡ h
unfolding column
length-column xs w h x = length-map-range_with_len (λ y. get_or xs (y * w + x) (pos 0)) 0 h

pub column_at : (xs : List ℤ) (w h x y : ℕ) → y < h → get_or (column xs w h x) y (pos 0) ≡ get_or xs (y * w + x) (pos 0)
unfolding column
column_at xs w h x y l = get_or-map-range_with_len (λ j. get_or xs (j * w + x) (pos 0)) 0 h y y (pos 0) l (omega arith)

pub column-set_same : (xs : List ℤ) (w h x y : ℕ) (v : ℤ) → length xs ≡ w * h → x < w → y < h → column (set xs (y * w + x) v) w h x ≡ set (column xs w h x) y v
column-set_same xs w h x y v len p q =
    ext_get_or (pos 0) (column (set xs (y * w + x) v) w h x) (set (column xs w h x) y v)
    (length-column (set xs (y * w + x) v) w h x ∙ sym (length-set (column xs w h x) y v ∙ length-column xs w h x))
    (λ j l.
    let inside : j < h = omega (arith, l, length-column (set xs (y * w + x) v) w h x) in
    column_at (set xs (y * w + x) v) w h x j inside ∙ elim (cases_eq j y) [
      | inl here ↦
          ap (λ i. get_or (set xs (y * w + x) v) (i * w + x) (pos 0)) here
          ∙ get_or-set_same xs (y * w + x) v (pos 0) (omega (arith, len, mul-add-lt y w x h q p))
          ∙ sym (ap (λ i. get_or (set (column xs w h x) y v) i (pos 0)) here
          ∙ get_or-set_same (column xs w h x) y v (pos 0) (omega (arith, q, length-column xs w h x)))
      | inr other ↦
          get_or-set_other xs (y * w + x) (j * w + x) v (pos 0) (λ f. other ((same_from_place j x y x w p p f).0))
          ∙ sym (get_or-set_other (column xs w h x) y j v (pos 0) other ∙ column_at xs w h x j inside)
    ])

pub column-set_other : (xs : List ℤ) (w h x y z : ℕ) (v : ℤ) → x < w → z < w → z ≢ x → column (set xs (y * w + x) v) w h z ≡ column xs w h z
column-set_other xs w h x y z v p q ne =
    ext_get_or (pos 0) (column (set xs (y * w + x) v) w h z) (column xs w h z)
    (length-column (set xs (y * w + x) v) w h z ∙ sym (length-column xs w h z))
    (λ j l.
    let inside : j < h = omega (arith, l, length-column (set xs (y * w + x) v) w h z) in
    column_at (set xs (y * w + x) v) w h z j inside
    ∙ get_or-set_other xs (y * w + x) (j * w + z) v (pos 0) (λ f. ne ((same_from_place j z y x w q p f).1))
    ∙ sym (column_at xs w h z j inside))

-- the pairs below n are changed in all columns, pair n in the columns below p
pub record ColumnsPart (s : Step) (w h : ℕ) (xs ys : List ℤ) (n p : ℕ) : Type 0 where
  pub len : length ys ≡ length xs
  pub left : (x : ℕ) → x < w → x < p → LiftedBelow s (column xs w h x) (column ys w h x) (n + 1)
  pub right : (x : ℕ) → x < w → p ≤ x → LiftedBelow s (column xs w h x) (column ys w h x) n

pub part_none : (s : Step) (w h : ℕ) (xs : List ℤ) → ColumnsPart s w h xs xs 0 0
part_none s w h xs = record {
  len = refl;
  left = λ x l k. absurd (omega (arith, k));
  right = λ x l k. below_none s (column xs w h x);
}

pub part_more : (s : Step) (w h : ℕ) (xs ys : List ℤ) (n p : ℕ) (v : ℤ) → ColumnsPart s w h xs ys n p → s.parity ≤ 1 → length xs ≡ w * h → p < w → n < h / 2 → v ≡ new_at s (column ys w h p) n → ColumnsPart s w h xs (set ys (own s.parity n * w + p) v) n (p + 1)
part_more s w h xs ys n p v c fit len l k e =
    let row : own s.parity n < h = omega (arith, k, fit) in
    record {
      len = length-set ys (own s.parity n * w + p) v ∙ c.len;
      left = λ x i j. elim (cases_eq x p) [
        | inl here ↦
            let same : column (set ys (own s.parity n * w + p) v) w h p ≡ set (column ys w h p) (own s.parity n) v =
            column-set_same ys w h p (own s.parity n) v (c.len ∙ len) l row in
            subst (λ z. LiftedBelow s (column xs w h z) (column (set ys (own s.parity n * w + p) v) w h z) (n + 1)) (sym here)
            (subst (λ zs. LiftedBelow s (column xs w h p) zs (n + 1)) (sym same)
            (below_more s (column xs w h p) (column ys w h p) n v (c.right p l (omega arith)) fit (omega (arith, k, length-column xs w h p)) e))
        | inr other ↦
            subst (λ zs. LiftedBelow s (column xs w h x) zs (n + 1)) (sym (column-set_other ys w h p (own s.parity n) x v l i other)) (c.left x i (omega (arith, j, other)))
      ];
      right = λ x i j.
          subst (λ zs. LiftedBelow s (column xs w h x) zs n) (sym (column-set_other ys w h p (own s.parity n) x v l i (λ f. omega (arith, f, j)))) (c.right x i (omega (arith, j)));
    }

pub part_end : (s : Step) (w h : ℕ) (xs ys : List ℤ) (n : ℕ) → ColumnsPart s w h xs ys n 0 → n ≡ h / 2 → s.parity ≤ 1 → h % 2 ≡ 0 → ColumnsBecome (lift s) w h xs ys
part_end s w h xs ys n c all fit even = record {
  len = c.len;
  each = λ x l. below_end s (column xs w h x) (column ys w h x) n (c.right x l (omega arith)) (omega (arith, all, length-column xs w h x)) fit (omega (arith, even, length-column xs w h x));
}

by_parity : (b parity : ℕ) (xs : List ℤ) → parity ≤ 1 → PlacesWithin b 0 xs → PlacesWithin b 1 xs → PlacesWithin b parity xs
by_parity b parity xs fit he ho = elim (cases_eq parity 0) [
  | inl none ↦ subst (λ q. PlacesWithin b q xs) (sym none) he
  | inr some ↦ let one : parity ≡ 1 = omega (arith, fit, some) in subst (λ q. PlacesWithin b q xs) (sym one) ho
]

-- what a step reads, and what it changes, is still small
pub still_read : (s : Step) (w h : ℕ) (xs ys : List ℤ) (n p : ℕ) → ColumnsPart s w h xs ys n p → s.parity ≤ 1 → p < w → ColumnsSmall w h xs → PlacesWithin (2 ^ 112) (1 - s.parity) (column ys w h p)
still_read s w h xs ys n p c fit l small m =
    rw ((c.right p l (omega arith)).kept m) (by_parity (2 ^ 112) (1 - s.parity) (column xs w h p) (omega arith) (small.evens p l) (small.odds p l) m)

pub still_changed : (s : Step) (w h : ℕ) (xs ys : List ℤ) (n p : ℕ) → ColumnsPart s w h xs ys n p → s.parity ≤ 1 → p < w → ColumnsSmall w h xs → unsigned_abs (get_or (column ys w h p) (own s.parity n) (pos 0)) ≤ 2 ^ 112
still_changed s w h xs ys n p c fit l small =
    rw ((c.right p l (omega arith)).rest n (omega arith)) (by_parity (2 ^ 112) s.parity (column xs w h p) fit (small.evens p l) (small.odds p l) n)

-- the values of a plane by its columns
pub columns_values : (f : List ℤ → List ℤ) (w h : ℕ) (xs ys : List ℤ) → ColumnsBecome f w h xs ys → length xs ≡ w * h → 0 < w → ys ≡ filled w h (λ x y. get_or (f (column xs w h x)) y (pos 0))
unfolding filled
columns_values f w h xs ys c len some =
    fill_by_all (λ i. get_or (f (column xs w h (i % w))) (i / w) (pos 0)) ys (w * h) (pos 0) (c.len ∙ len) (λ i l.
    let place : (i / w) * w + i % w ≡ i = div-add-mod' i w in
    let row : i / w < h = div_below i w h some (omega (arith, l)) in
    ap (λ k. get_or ys k (pos 0)) (sym place)
    ∙ sym (column_at ys w h (i % w) (i / w) row)
    ∙ ap (λ zs. get_or zs (i / w) (pos 0)) (c.each (i % w) (mod_below i w some)))

-- bounds on all values are bounds on each column, and the other way round
pub column_bound : (b : ℕ) (xs : List ℤ) (w h x : ℕ) → All (λ v. unsigned_abs v ≤ b) xs → All (λ v. unsigned_abs v ≤ b) (column xs w h x)
column_bound b xs w h x all k d l =
    rw (get_or_default (column xs w h x) k d (pos 0) l, column_at xs w h x k (omega (arith, l, length-column xs w h x)))
    (elim (cases_lt (k * w + x) (length xs)) [
      | inl inside ↦ all (k * w + x) (pos 0) inside
      | inr past ↦ rw (get_or_past xs (k * w + x) (pos 0) past) (omega arith)
    ])

pub columns_bound : (b : ℕ) (ys : List ℤ) (w h : ℕ) → length ys ≡ w * h → 0 < w → ((x : ℕ) → x < w → All (λ v. unsigned_abs v ≤ b) (column ys w h x)) → All (λ v. unsigned_abs v ≤ b) ys
columns_bound b ys w h len some each k d l =
    let place : (k / w) * w + k % w ≡ k = div-add-mod' k w in
    let row : k / w < h = div_below k w h some (omega (arith, l, len)) in
    let here : unsigned_abs (get_or (column ys w h (k % w)) (k / w) (pos 0)) ≤ b =
    each (k % w) (mod_below k w some) (k / w) (pos 0) (omega (arith, row, length-column ys w h (k % w))) in
    let there : unsigned_abs (get_or ys ((k / w) * w + k % w) (pos 0)) ≤ b = rw (column_at ys w h (k % w) (k / w) row) at here in
    rw (get_or_default ys k d (pos 0) l) (rw place at there)
