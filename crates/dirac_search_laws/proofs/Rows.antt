-- The values of a list by rows.
use Rattle.std.proofs.Common.{◌≡◌, ℕ, zero, suc, ◌+◌, ◌*◌, ◌<◌, ◌++◌, length, get_or, arith, ap, ◌∙◌}
use Rattle.std.specs.List.{flat_map, range_with_len}
use Rattle.std.proofs.lemmas.List.FromFn.{get_or-map-range_with_len, length-map-range_with_len}
use Rattle.std.proofs.lemmas.List.{get_or-append-add, get_or_append_left}
use Rattle.dirac_search.specs.ByRows.{listed_by_rows, row_values}

-- column x of the row that is y rows behind row a
row_at : {A : Type 0} (w : ℕ) (f : ℕ → ℕ → A) (a h x y : ℕ) (d : A) → x < w → y < h
    → get_or (flat_map (row_values w f) (range_with_len a h)) (y * w + x) d ≡ f x (a + y)
row_at w f a zero x y d column row = absurd (omega arith)
row_at w f a (suc h) x zero d column row =
    let long = length-map-range_with_len (λ i. f i a) 0 w in
    ap (λ k. get_or (row_values w f a ++ flat_map (row_values w f) (range_with_len (a + 1) h)) k d) (first x)
    ∙ get_or_append_left (row_values w f a) (flat_map (row_values w f) (range_with_len (a + 1) h)) d x (omega (arith, long))
    ∙ get_or-map-range_with_len (λ i. f i a) 0 w x x d column (omega arith)
    ∙ ap (f x) (none a)
  where
    first : (k : ℕ) → 0 * w + k ≡ k
    first k = omega arith

    none : (k : ℕ) → k ≡ k + 0
    none k = omega arith
row_at w f a (suc h) x (suc y) d column row =
    ap (λ k. get_or (row_values w f a ++ flat_map (row_values w f) (range_with_len (a + 1) h)) k d) place
    ∙ get_or-append-add (row_values w f a) (flat_map (row_values w f) (range_with_len (a + 1) h)) (y * w + x) d
    ∙ row_at w f (a + 1) h x y d column (omega arith)
    ∙ ap (f x) next
  where
    place : suc y * w + x ≡ length (row_values w f a) + (y * w + x)
    place = omega (arith, length-map-range_with_len (λ i. f i a) 0 w)

    next : a + 1 + y ≡ a + suc y
    next = omega arith

-- column x of row y
pub rows_at : {A : Type 0} (w h : ℕ) (f : ℕ → ℕ → A) (x y : ℕ) (d : A) → x < w → y < h → get_or (listed_by_rows w h f) (y * w + x) d ≡ f x y
unfolding listed_by_rows
rows_at w h f x y d column row = row_at w f 0 h x y d column row ∙ ap (f x) (omega arith)
