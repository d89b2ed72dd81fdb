-- Rows that are predicted some at a time.
use Rattle.std.proofs.Common.{◌≡◌, ℕ, ℤ, pos, ◌+◌, ◌-◌, ◌*◌, ◌/◌, ◌%◌, ◌<◌, ◌≤◌, List, length, get_or, min, take, arith, refl, inl, inr, ap, sym, ◌∙◌}
use Rattle.std.proofs.lemmas.Bool.{cases_lt}
use Rattle.std.specs.List.{slice_range}
use Rattle.std.proofs.lemmas.List.{get_or-append_right, get_or-drop, get_or-take, get_or_past, length-take-le}
use Rattle.std.proofs.lemmas.List.Edits.{get_or-between, length-between}
use Rattle.std.proofs.lemmas.Nat.{div-add-mod', div-mul-add, mod-mul-add, mod_below, mul-le}
use Rattle.std.proofs.lemmas.Slice.{drop-put_mid, take-put_mid, take-put_mid_below}
use Rattle.std.proofs.Math.Nat.{add-mul, mul_comm}
use borrow.Rule.Slice.PartMut.{put_mid}

-- a list of which a part is written over: before that part, in it, and behind it
part_before : (a k n : ℕ) (xs ws : List ℤ) → n < a → a ≤ length xs → get_or (put_mid a k xs ws) n (pos 0) ≡ get_or xs n (pos 0)
part_before a k n xs ws l fits =
    sym (get_or-take a (put_mid a k xs ws) n (pos 0) l) ∙ ap (λ ys. get_or ys n (pos 0)) (take-put_mid_below a k xs ws a (omega arith) fits)
    ∙ get_or-take a xs n (pos 0) l

part_inside : (a k n : ℕ) (xs ws : List ℤ) → n < length ws → a ≤ length xs → get_or (put_mid a k xs ws) (a + n) (pos 0) ≡ get_or ws n (pos 0)
part_inside a k n xs ws l fits =
    let same : a + n - a ≡ n = omega arith in
    sym (get_or-take (a + length ws) (put_mid a k xs ws) (a + n) (pos 0) (omega arith))
    ∙ ap (λ ys. get_or ys (a + n) (pos 0)) (take-put_mid a k xs ws (a + length ws) refl fits)
    ∙ get_or-append_right (take a xs) ws a (a + n) (pos 0) (length-take-le a xs fits) (omega arith)
    ∙ ap (λ i. get_or ws i (pos 0)) same

part_behind : (a k n : ℕ) (xs ws : List ℤ) → a + k ≤ n → a ≤ length xs → length ws ≡ k → get_or (put_mid a k xs ws) n (pos 0) ≡ get_or xs n (pos 0)
part_behind a k n xs ws l fits len =
    let at : n + 0 ≡ n = omega arith in
    ap (λ i. get_or (put_mid a k xs ws) i (pos 0)) (sym at) ∙ sym (get_or-drop n (put_mid a k xs ws) 0 (pos 0))
    ∙ ap (λ ys. get_or ys 0 (pos 0)) (drop-put_mid a k xs ws n l fits len) ∙ get_or-drop n xs 0 (pos 0) ∙ ap (λ i. get_or xs i (pos 0)) at

-- a part of a list that is 0
pub zeros_between : (a b : ℕ) (xs : List ℤ) → b ≤ length xs → ((p : ℕ) → a ≤ p → get_or xs p (pos 0) ≡ pos 0) → (p : ℕ) → get_or (slice_range xs a b) p (pos 0) ≡ pos 0
zeros_between a b xs fits zeros p = elim (cases_lt (a + p) b) [
  | inl inside ↦ get_or-between xs a b p (pos 0) inside ∙ zeros (a + p) (omega arith)
  | inr past ↦ get_or_past {X = ℤ} (slice_range xs a b) p (pos 0) (omega (arith, past, length-between xs a b fits))
]

-- the first n rows of w values, where there are as many, are written, and all others are 0
pub record RowsWritten (g : ℕ → ℤ) (w n size : ℕ) (xs : List ℤ) : Type 0 where
  pub done : (p : ℕ) → p < n * w → p < size → get_or xs p (pos 0) ≡ g p
  pub rest : (p : ℕ) → n * w ≤ p → get_or xs p (pos 0) ≡ pos 0

-- the next rows, 64 of them, or all that are left
pub rows_written_more : (g : ℕ → ℤ) (w n rows size a k e : ℕ) (xs ws : List ℤ) → RowsWritten g w n size xs → length xs ≡ size → size ≡ w * rows → a ≡ n * w → n ≤ e → e ≡ min (n + 64) rows
    → k ≡ (e - n) * w → length ws ≡ k → ((i : ℕ) → i < length ws → get_or ws i (pos 0) ≡ g (n * w + i)) → RowsWritten g w (n + 64) size (put_mid a k xs ws)
rows_written_more g w n rows size a k e xs ws h len whole start ahead end count lens each =
    let next : n + (e - n) ≡ e = omega (arith, ahead) in
    let stop : a + k ≡ e * w = omega (arith, start, count, add-mul n (e - n) w, ap (λ r. r * w) next) in
    let turned : w * rows ≡ rows * w = mul_comm w rows in
    let few : e * w ≤ rows * w = mul-le e w rows w (omega (arith, end)) (omega arith) in
    let fits : a ≤ length xs = omega (arith, stop, few, len, whole, turned) in
    record {
      done = λ p l inside. elim (cases_lt p a) [
        | inl before ↦ part_before a k p xs ws before fits ∙ h.done p (omega (arith, before, start)) inside
        | inr past ↦
            let here : a + (p - a) ≡ p = omega (arith, past) in
            let there : n * w + (p - a) ≡ p = omega (arith, past, start) in
            let within : p < e * w = elim (cases_lt rows (n + 64)) [
              | inl short ↦ let all : e ≡ rows = omega (arith, end, short) in omega (arith, inside, whole, turned, ap (λ r. r * w) all)
              | inr long ↦ let all : e ≡ n + 64 = omega (arith, end, long) in omega (arith, l, ap (λ r. r * w) all)
            ] in
            let own : p - a < length ws = omega (arith, within, past, stop, lens) in
            ap (λ i. get_or (put_mid a k xs ws) i (pos 0)) (sym here) ∙ part_inside a k (p - a) xs ws own fits ∙ each (p - a) own ∙ ap g there
      ];
      rest = λ p l.
          let far : e * w ≤ (n + 64) * w = mul-le e w (n + 64) w (omega (arith, end)) (omega arith) in
          part_behind a k p xs ws (omega (arith, stop, far, l)) fits lens
          ∙ h.rest p (omega (arith, l, mul-le n w (n + 64) w (omega arith) (omega arith)));
    }

-- a place further rows down
rows_down : (w n i : ℕ) → 0 < w → ((n * w + i) % w ≡ i % w) × ((n * w + i) / w ≡ n + i / w)
rows_down w n i some =
    let place : n * w + i ≡ (n + i / w) * w + i % w = omega (arith, add-mul n (i / w) w, div-add-mod' i w) in
    (ap (λ p. p % w) place ∙ mod-mul-add (n + i / w) w (i % w) (mod_below i w some), ap (λ p. p / w) place ∙ div-mul-add (n + i / w) w (i % w) (mod_below i w some))

-- what stands there
pub told_down : (f : ℕ → ℕ → ℤ) (w n i first : ℕ) → 0 < w → f (i % w) (first + n + i / w) ≡ f ((n * w + i) % w) (first + (n * w + i) / w)
told_down f w n i first some =
    let down = rows_down w n i some in
    ap (f (i % w)) (omega (arith, down.1)) ∙ ap (λ x. f x (first + (n * w + i) / w)) (sym down.0)

-- the part of a list that holds the rows from n to e - 1
pub record IsStrip (w n e rows size start stop : ℕ) : Type 0 where
  pub start_is : start ≡ n * w
  pub count : stop - start ≡ (e - n) * w
  pub ahead : start ≤ stop
  pub fits : stop ≤ size

pub strip_is : (w n e rows size start stop : ℕ) → start ≡ n * w → stop ≡ e * w → n ≤ e → e ≤ rows → size ≡ w * rows → IsStrip w n e rows size start stop
strip_is w n e rows size start stop es et ahead few whole =
    let next : n + (e - n) ≡ e = omega (arith, ahead) in
    let both = add-mul n (e - n) w in
    record {
      start_is = es;
      count = omega (arith, es, et, both, ap (λ r. r * w) next);
      ahead = omega (arith, es, et, both, ap (λ r. r * w) next);
      fits = omega (arith, et, whole, mul-le e w rows w few (omega arith), mul_comm w rows);
    }
