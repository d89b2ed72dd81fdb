-- Rows of a plane whose values are changed row by row.
use Rattle.std.proofs.Common.{◌≡◌, ℕ, ℤ, pos, ◌+◌, ◌-◌, ◌*◌, ◌/◌, ◌%◌, ◌<◌, ◌≤◌, unsigned_abs, List, length, get_or, take, drop, arith, refl, inl, inr, ap, sym, ◌∙◌, length-take, length-drop}
use Rattle.std.specs.List.{All}
use Rattle.std.proofs.lemmas.List.{get_or-take, get_or-drop, get_or_past, get_or_default}
use Rattle.std.proofs.lemmas.List.FromFn.{fill_by_all}
use Rattle.std.proofs.lemmas.Nat.{row_fits, div-add-mod', div_below, mod_below}
use Rattle.std.proofs.lemmas.Bool.{cases_lt, cases_eq}
use Rattle.std.proofs.lemmas.Slice.{between_is, between-put_mid, take-put_mid_below, drop-put_mid}
use borrow.Rule.Slice.PartMut.{put_mid, mid_of, same_len_mid}
use Rattle.dirac_common.specs.Table.{filled}
use Rattle.dirac_lift.specs.Lanes.{RunPut}
use Rattle.dirac_lift.specs.Level.{row_in}
use Rattle.dirac_lift.specs.Places.{RowsBecome}

pub row_at : (xs : List ℤ) (w y x : ℕ) → x < w → get_or (row_in xs w y) x (pos 0) ≡ get_or xs (y * w + x) (pos 0)
row_at xs w y x l =
    let whole : y * w + w - y * w ≡ w = omega arith in
    get_or-take (y * w + w - y * w) (drop (y * w) xs) x (pos 0) (omega (arith, whole))
    ∙ get_or-drop (y * w) xs x (pos 0)

pub length-row : (xs : List ℤ) (w h y : ℕ) → length xs ≡ w * h → y < h → length (row_in xs w y) ≡ w
length-row xs w h y len l =
    let whole : y * w + w - y * w ≡ w = omega arith in
    simp (length-take, length-drop) (omega (arith, len, whole, row_fits y w h w l (omega arith)))

-- the rows above row n are changed
pub record RowsBelow (f : List ℤ → List ℤ) (w : ℕ) (xs ys : List ℤ) (n : ℕ) : Type 0 where
  pub len : length ys ≡ length xs
  pub done : (y : ℕ) → y < n → row_in ys w y ≡ f (row_in xs w y)
  pub rest : (y : ℕ) → n ≤ y → row_in ys w y ≡ row_in xs w y

pub rows_none : (f : List ℤ → List ℤ) (w : ℕ) (xs : List ℤ) → RowsBelow f w xs xs 0
rows_none f w xs = record { len = refl; done = λ y l. absurd (omega (arith, l)); rest = λ y l. refl }

pub rows_more : (f : List ℤ → List ℤ) (w h : ℕ) (xs ys : List ℤ) (n k : ℕ) (ws : List ℤ) → RowsBelow f w xs ys n → length xs ≡ w * h → n < h → k ≡ w → length ws ≡ w → ws ≡ f (row_in ys w n) → RowsBelow f w xs (put_mid (n * w) k ys ws) (n + 1)
rows_more f w h xs ys n k ws r len l ek ew e =
    let fits : n * w + w ≤ length ys = omega (arith, r.len, len, row_fits n w h w l (omega arith)) in
    let mid : length (mid_of (n * w) k ys) ≡ w = simp (length-take, length-drop) (omega (arith, fits, ek)) in
    record {
      len = same_len_mid (n * w) k ys ws (ew ∙ sym mid) ∙ r.len;
      done = λ y b. elim (cases_eq y n) [
        | inl here ↦
            ap (row_in (put_mid (n * w) k ys ws) w) here
            ∙ between-put_mid (n * w) k ys ws (n * w + w) (omega (arith, fits)) (omega (arith, ew))
            ∙ e ∙ ap f (r.rest n (omega arith)) ∙ ap (λ i. f (row_in xs w i)) (sym here)
        | inr above ↦
            between_is (put_mid (n * w) k ys ws) (y * w) (y * w + w)
            ∙ ap (drop (y * w)) (take-put_mid_below (n * w) k ys ws (y * w + w) (row_fits y w n w (omega (arith, b, above)) (omega arith)) (omega (arith, fits)))
            ∙ sym (between_is ys (y * w) (y * w + w))
            ∙ r.done y (omega (arith, b, above))
      ];
      rest = λ y b.
          ap (take (y * w + w - y * w)) (drop-put_mid (n * w) k ys ws (y * w) (omega (arith, ek, row_fits n w y w (omega (arith, b)) (omega arith))) (omega (arith, fits)) (omega (arith, ew, ek)))
          ∙ r.rest y (omega (arith, b));
    }

-- the values of a plane by its rows
pub rows_values : (f : List ℤ → List ℤ) (w h : ℕ) (xs ys : List ℤ) → RowsBecome f w h xs ys → length xs ≡ w * h → 0 < w → ys ≡ filled w h (λ x y. get_or (f (row_in xs w y)) x (pos 0))
unfolding filled
rows_values f w h xs ys r len some =
    fill_by_all (λ i. get_or (f (row_in xs w (i / w))) (i % w) (pos 0)) ys (w * h) (pos 0) (r.len ∙ len) (λ i l.
    let place : (i / w) * w + i % w ≡ i = div-add-mod' i w in
    ap (λ k. get_or ys k (pos 0)) (sym place)
    ∙ sym (row_at ys w (i / w) (i % w) (mod_below i w some))
    ∙ ap (λ zs. get_or zs (i % w) (pos 0)) (r.each (i / w) (div_below i w h some (omega (arith, l)))))

-- bounds on all values are bounds on each row, and the other way round
pub row_bound : (b : ℕ) (xs : List ℤ) (w y : ℕ) → All (λ v. unsigned_abs v ≤ b) xs → All (λ v. unsigned_abs v ≤ b) (row_in xs w y)
row_bound b xs w y all k d l =
    let whole : y * w + w - y * w ≡ w = omega arith in
    let inside : k < w = let m = simp length-take at l in omega (arith, m, whole) in
    rw (get_or_default (row_in xs w y) k d (pos 0) l, row_at xs w y k inside)
    (elim (cases_lt (y * w + k) (length xs)) [
      | inl here ↦ all (y * w + k) (pos 0) here
      | inr past ↦ rw (get_or_past xs (y * w + k) (pos 0) past) (omega arith)
    ])

pub rows_bound : (b : ℕ) (ys : List ℤ) (w h : ℕ) → length ys ≡ w * h → 0 < w → ((y : ℕ) → y < h → All (λ v. unsigned_abs v ≤ b) (row_in ys w y)) → All (λ v. unsigned_abs v ≤ b) ys
rows_bound b ys w h len some each k d l =
    let place : (k / w) * w + k % w ≡ k = div-add-mod' k w in
    let row : k / w < h = div_below k w h some (omega (arith, l, len)) in
    let column : k % w < w = mod_below k w some in
    let here : unsigned_abs (get_or (row_in ys w (k / w)) (k % w) (pos 0)) ≤ b =
    each (k / w) row (k % w) (pos 0) (omega (arith, column, length-row ys w h (k / w) len row)) in
    let there : unsigned_abs (get_or ys ((k / w) * w + k % w) (pos 0)) ≤ b = rw (row_at ys w (k / w) (k % w) column) at here in
    rw (get_or_default ys k d (pos 0) l) (rw place at there)

-- a part of a list that is overwritten by a part of another
pub run_copied : (at count first k m : ℕ) (xs ys from : List ℤ) → at + count ≤ length xs → first + count ≤ length from → k ≡ count → m ≡ count → ys ≡ take m (drop first from) → RunPut at count (λ j. get_or from (first + j) (pos 0)) xs (put_mid at k xs ys)
run_copied at count first k m xs ys from room enough ek em is =
    let zs : List ℤ = put_mid at k xs ys in
    let part : length (take m (drop first from)) ≡ count = simp (length-take, length-drop) (omega (arith, enough, em)) in
    let size : length ys ≡ count = ap length is ∙ part in
    let mid : length (mid_of at k xs) ≡ count = simp (length-take, length-drop) (omega (arith, room, ek)) in
    let span : at + count - at ≡ count = omega arith in
    record {
      len = same_len_mid at k xs ys (size ∙ sym mid);
      inside = λ j l.
          sym (get_or-take (at + count - at) (drop at zs) j (pos 0) (omega (arith, l, span)) ∙ get_or-drop at zs j (pos 0))
          ∙ ap (λ vs. get_or vs j (pos 0)) (between-put_mid at k xs ys (at + count) (omega (arith, room)) (omega (arith, size, span)) ∙ is)
          ∙ get_or-take m (drop first from) j (pos 0) (omega (arith, l, em))
          ∙ get_or-drop first from j (pos 0);
      before = λ i l.
          sym (get_or-take at zs i (pos 0) l)
          ∙ ap (λ vs. get_or vs i (pos 0)) (take-put_mid_below at k xs ys at (omega arith) (omega (arith, room)))
          ∙ get_or-take at xs i (pos 0) l;
      behind = λ i l.
          let here : at + count + (i - (at + count)) ≡ i = omega (arith, l) in
          ap (λ n. get_or zs n (pos 0)) (sym here)
          ∙ sym (get_or-drop (at + count) zs (i - (at + count)) (pos 0))
          ∙ ap (λ vs. get_or vs (i - (at + count)) (pos 0)) (drop-put_mid at k xs ys (at + count) (omega (arith, ek)) (omega (arith, room)) (omega (arith, size, ek)))
          ∙ get_or-drop (at + count) xs (i - (at + count)) (pos 0)
          ∙ ap (λ n. get_or xs n (pos 0)) here;
    }
