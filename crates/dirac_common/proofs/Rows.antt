-- A table that is filled row by row, and what is read of a table that is told by column and row.
use Rattle.std.proofs.Common.{◌≡◌, ℕ, ℤ, pos, ◌+◌, ◌-◌, ◌*◌, ◌/◌, ◌%◌, ◌≤◌, ◌<◌, List, length, ◌++◌, get_or, take, drop, arith, inl, inr, ap, sym, ◌∙◌, length-append, length-drop}
use Rattle.std.proofs.lemmas.List.{length-take-le, take_at, get_or_append_left, get_or-take, get_or-drop, get_or-append_right}
use Rattle.std.proofs.lemmas.List.FromFn.{fill_by_all, get_or-map-range_with_len}
use Rattle.std.proofs.lemmas.Nat.{row_fits, mod_below, div-add-mod', div_below, mul-add-lt, div-mul-add, mod-mul-add}
use Rattle.std.proofs.lemmas.Bool.{cases_lt}
use Rattle.dirac_common.specs.Table.{Table, table_at, row_of, overwritten, filled, table_of}

-- what a part of a list is written over with, and what lies round it
pieces : List ℤ → ℕ → List ℤ → List ℤ
pieces xs i ws = take i xs ++ (ws ++ drop (length ws) (drop i xs))

pieces_len : (xs : List ℤ) (i : ℕ) (ws : List ℤ) → i + length ws ≤ length xs → length (pieces xs i ws) ≡ length xs
unfolding pieces
pieces_len xs i ws h =
    simp (length-append, length-drop) (omega (arith, length-take-le i xs (omega arith)))

overwritten_is : (xs : List ℤ) (i : ℕ) (ws : List ℤ) → i + length ws ≤ length xs → overwritten xs i ws ≡ pieces xs i ws
unfolding pieces
overwritten_is xs i ws h =
    take_at (pieces xs i ws) (drop (length (pieces xs i ws)) xs) (length xs) (pieces_len xs i ws h)

pub overwritten_len : (xs : List ℤ) (i : ℕ) (ws : List ℤ) → i + length ws ≤ length xs → length (overwritten xs i ws) ≡ length xs
overwritten_len xs i ws h = ap length (overwritten_is xs i ws h) ∙ pieces_len xs i ws h

pub overwritten_below : (xs : List ℤ) (i : ℕ) (ws : List ℤ) (k : ℕ) → i + length ws ≤ length xs → k < i → get_or (overwritten xs i ws) k (pos 0) ≡ get_or xs k (pos 0)
unfolding pieces
overwritten_below xs i ws k h l =
    let front : length (take i xs) ≡ i = length-take-le i xs (omega arith) in
    ap (λ ys. get_or ys k (pos 0)) (overwritten_is xs i ws h)
    ∙ get_or_append_left (take i xs) (ws ++ drop (length ws) (drop i xs)) (pos 0) k (omega (arith, front))
    ∙ get_or-take i xs k (pos 0) l

pub overwritten_inside : (xs : List ℤ) (i : ℕ) (ws : List ℤ) (k : ℕ) → i + length ws ≤ length xs → k < length ws → get_or (overwritten xs i ws) (i + k) (pos 0) ≡ get_or ws k (pos 0)
unfolding pieces
overwritten_inside xs i ws k h l =
    let rest : i + k - i ≡ k = omega arith in
    ap (λ ys. get_or ys (i + k) (pos 0)) (overwritten_is xs i ws h)
    ∙ get_or-append_right (take i xs) (ws ++ drop (length ws) (drop i xs)) i (i + k) (pos 0) (length-take-le i xs (omega arith)) (omega arith)
    ∙ ap (λ j. get_or (ws ++ drop (length ws) (drop i xs)) j (pos 0)) rest
    ∙ get_or_append_left ws (drop (length ws) (drop i xs)) (pos 0) k l

-- the rows above row n are those of f
pub record RowsFilled (f : ℕ → ℕ → ℤ) (w h : ℕ) (xs : List ℤ) (n : ℕ) : Type 0 where
  pub len : length xs ≡ w * h
  pub done : (x y : ℕ) → x < w → y < n → get_or xs (y * w + x) (pos 0) ≡ f x y

pub rows_more : (f : ℕ → ℕ → ℤ) (w h : ℕ) (xs : List ℤ) (n m : ℕ) (ws : List ℤ) → RowsFilled f w h xs n → n < h → m ≡ n + 1 → length ws ≡ w → ((x : ℕ) → x < w → get_or ws x (pos 0) ≡ f x n) → RowsFilled f w h (overwritten xs (n * w) ws) m
rows_more f w h xs n m ws r l next e here =
    let fits : n * w + length ws ≤ length xs = omega (arith, r.len, e, row_fits n w h w l (omega arith)) in
    record {
      len = overwritten_len xs (n * w) ws fits ∙ r.len;
      done = λ x y p q. elim (cases_lt y n) [
        | inl below ↦ overwritten_below xs (n * w) ws (y * w + x) fits (omega (arith, row_fits y w n w below (omega arith))) ∙ r.done x y p below
        | inr above ↦ let same : y ≡ n = omega arith in
            rw same (overwritten_inside xs (n * w) ws x fits (omega (arith, e)) ∙ here x p)
      ];
    }

pub rows_all : (f : ℕ → ℕ → ℤ) (t : Table) (w h n : ℕ) → t.width ≡ w → t.height ≡ h → 0 < w → h ≤ n → RowsFilled f t.width t.height t.values n → t ≡ table_of w h f
unfolding filled
rows_all f t w h n ew eh some all r =
    let values : t.values ≡ filled t.width t.height f =
    fill_by_all (λ p. f (p % t.width) (p / t.width)) t.values (t.width * t.height) (pos 0) r.len
    (λ p l. let place : (p / t.width) * t.width + p % t.width ≡ p = div-add-mod' p t.width in
    ap (λ i. get_or t.values i (pos 0)) (sym place)
    ∙ r.done (p % t.width) (p / t.width) (mod_below p t.width (omega arith))
    (omega (arith, div_below p t.width t.height (omega arith) (omega (arith, l))))) in
    ap (λ (vs : List ℤ). record t { values = vs }) values
    ∙ ap (λ v. table_of v t.height f) ew ∙ ap (λ v. table_of w v f) eh

-- a row's values are those of the table
pub row_at : (t : Table) (x y : ℕ) → x < t.width → get_or (row_of t y) x (pos 0) ≡ table_at t x y
row_at t x y l =
    let whole : y * t.width + t.width - y * t.width ≡ t.width = omega arith in
    get_or-take (y * t.width + t.width - y * t.width) (drop (y * t.width) t.values) x (pos 0) (omega (arith, whole))
    ∙ get_or-drop (y * t.width) t.values x (pos 0)

-- a value of a table that is told by column and row
pub filled_at : (f : ℕ → ℕ → ℤ) (w h x y : ℕ) → x < w → y < h → get_or (filled w h f) (y * w + x) (pos 0) ≡ f x y
unfolding filled
filled_at f w h x y l k =
    get_or-map-range_with_len (λ p. f (p % w) (p / w)) 0 (w * h) (y * w + x) (y * w + x) (pos 0) (mul-add-lt y w x h k l) (omega arith)
    ∙ ap (λ i. f i ((y * w + x) / w)) (mod-mul-add y w x l)
    ∙ ap (λ j. f x j) (div-mul-add y w x l)
