-- Lists by rows.
use Rattle.std.proofs.Common.{◌≡◌, ℕ, ◌+◌, List, [], ◌∷◌, ◌++◌, ap, sym, ◌∙◌, arith, append_assoc}
use Rattle.std.specs.List.{flat_map, range_with_len}
use Rattle.std.proofs.lemmas.Grind.{flat_map-append}
use Rattle.std.proofs.lemmas.List.{append-nil, map-id}
use Rattle.std.proofs.lemmas.List.FromFn.{map-range_with_len_more}
use Rattle.dirac_search.specs.ByRows.{listed_by_rows, row_values}

-- numbers from 0 on, and one more
range_more : (n : ℕ) → range_with_len 0 (n + 1) ≡ range_with_len 0 n ++ n ∷ []
range_more n = sym (map-id (range_with_len 0 (n + 1))) ∙ map-range_with_len_more (λ x. x) 0 n n (omega arith) ∙ ap (λ xs. xs ++ n ∷ []) (map-id (range_with_len 0 n))

-- none of a row yet
pub row_none : {A : Type 0} (f : ℕ → ℕ → A) (y : ℕ) (xs : List A) → xs ≡ xs ++ row_values 0 f y
row_none f y xs = sym (append-nil xs)

-- one more of a row
pub row_more : {A : Type 0} (f : ℕ → ℕ → A) (y n : ℕ) (before xs now : List A) (v : A) → xs ≡ before ++ row_values n f y → now ≡ xs ++ v ∷ [] → v ≡ f n y → now ≡ before ++ row_values (n + 1) f y
row_more f y n before xs now v e en ev =
    en ∙ ap (λ ys. ys ++ v ∷ []) e ∙ append_assoc before (row_values n f y) (v ∷ [])
    ∙ ap (λ w. before ++ (row_values n f y ++ w ∷ [])) ev
    ∙ ap (λ ys. before ++ ys) (sym (map-range_with_len_more (λ x. f x y) 0 n n (omega arith)))

-- one more row
pub rows_next : {A : Type 0} (w n : ℕ) (f : ℕ → ℕ → A) → listed_by_rows w (n + 1) f ≡ listed_by_rows w n f ++ row_values w f n
unfolding listed_by_rows
rows_next w n f =
    ap (flat_map (row_values w f)) (range_more n) ∙ flat_map-append (row_values w f) (range_with_len 0 n) (n ∷ [])
    ∙ ap (λ ys. flat_map (row_values w f) (range_with_len 0 n) ++ ys) (append-nil (row_values w f n))

pub rows_more : {A : Type 0} (w n : ℕ) (f : ℕ → ℕ → A) (before xs now : List A) → xs ≡ before ++ listed_by_rows w n f → now ≡ xs ++ row_values w f n → now ≡ before ++ listed_by_rows w (n + 1) f
rows_more w n f before xs now e en =
    en ∙ ap (λ ys. ys ++ row_values w f n) e ∙ append_assoc before (listed_by_rows w n f) (row_values w f n) ∙ ap (λ ys. before ++ ys) (sym (rows_next w n f))

-- no rows yet
pub rows_none : {A : Type 0} (w : ℕ) (f : ℕ → ℕ → A) (xs : List A) → xs ≡ xs ++ listed_by_rows w 0 f
unfolding listed_by_rows
rows_none w f xs = sym (append-nil xs)
