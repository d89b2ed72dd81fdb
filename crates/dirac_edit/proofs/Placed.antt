-- Where keys lie, and how they move.
use Rattle.std.proofs.Common.{◌≡◌, ◌∙◌, ℕ, ℤ, pos, negsuc, ◌+ℤ◌, ◌+◌, ◌-◌, ◌%◌, ◌<◌, ◌≤◌, ◌^◌, max, List, [], ◌∷◌, ◌++◌, drop, map, length, get_or, refl, sym, ap, ap₂, arith}
use Rattle.std.specs.Prelude.{◌≤ℤ◌}
use Rattle.std.specs.Int.{cast_signed, int_max, int_min, to_be_bytes, w32}
use Rattle.std.proofs.lemmas.Int.{int_max_is, int_min_is, ints}
use Rattle.std.proofs.lemmas.List.{drop_all}
use borrow.Author.Differences.{up, down}
use Rattle.dirac_refs.specs.Delivery.{key_of}
use Rattle.dirac_edit_laws.specs.Joined.{Keyed, first_number, high, keyed_from, low, moved_key, new_number, number_in_payload, renumbered}
use Rattle.dirac_edit_laws.specs.Texts.{PictureText}
use Rattle.dirac_edit_laws.proofs.Keys.{AreAtMost, NumberMoves, add_none, key_inside, keys_in, number_moves}
use Rattle.dirac_edit.specs.declared.keys.Keys.{Keys}
use Rattle.dirac_edit.specs.Merged.{above, below, keys_among, moved_on}
use Rattle.dirac_edit.proofs.Going.{left_at}

-- the greatest and the least key
max_up : (z : ℤ) (n : ℕ) → int_max z (pos n) ≡ pos (max (up z) n)
max_up (pos a) n = omega (arith, ints, int_max_is (pos a) (pos n))
max_up (negsuc a) n = omega (arith, ints, int_max_is (negsuc a) (pos n))

min_down : (z least : ℤ) (n : ℕ) → least +ℤ pos n ≡ pos 0 → int_min z least +ℤ pos (max (down z) n) ≡ pos 0
min_down (pos a) least n is = omega (arith, ints, int_min_is (pos a) least, is)
min_down (negsuc a) least n is = omega (arith, ints, int_min_is (negsuc a) least, is)

pub high_is : (ks : List Keyed) → high ks ≡ pos (above ks)
unfolding above
high_is [] = refl
high_is (k ∷ ks) = ap (int_max k.key) (high_is ks) ∙ max_up k.key (above ks)

pub low_is : (ks : List Keyed) → low ks +ℤ pos (below ks) ≡ pos 0
unfolding below
low_is [] = refl
low_is (k ∷ ks) = min_down k.key (low ks) (below ks) (low_is ks)

-- those of two lists
max_twice : (a b c : ℤ) → int_max a (int_max b c) ≡ int_max (int_max a b) c
max_twice a b c = omega (arith, ints, int_max_is b c, int_max_is a (int_max b c), int_max_is a b, int_max_is (int_max a b) c)

max_natural : (z : ℤ) (n : ℕ) → z ≡ pos n → int_max (pos 0) z ≡ z
max_natural z n is = omega (arith, ints, int_max_is (pos 0) z, is)

high_append : (xs ys : List Keyed) → high (xs ++ ys) ≡ int_max (high xs) (high ys)
high_append [] ys = sym (max_natural (high ys) (above ys) (high_is ys))
high_append (x ∷ xs) ys = ap (int_max x.key) (high_append xs ys) ∙ max_twice x.key (high xs) (high ys)

-- those of moved keys
none_moved : (by : ℕ) → int_max (pos by) (pos 0) ≡ pos (by + 0)
none_moved by = omega (arith, ints, int_max_is (pos by) (pos 0))

one_moved : (z h : ℤ) (by n : ℕ) → int_max (pos by) h ≡ pos (by + n) → int_max (pos by) (int_max (z +ℤ pos by) h) ≡ pos (by + max (up z) n)
one_moved (pos a) h by n is = omega (arith, ints, int_max_is (pos by) h, int_max_is (pos a +ℤ pos by) h, int_max_is (pos by) (int_max (pos a +ℤ pos by) h), is)
one_moved (negsuc a) h by n is = omega (arith, ints, int_max_is (pos by) h, int_max_is (negsuc a +ℤ pos by) h, int_max_is (pos by) (int_max (negsuc a +ℤ pos by) h), is)

high_moved : (by : ℕ) (ks : List Keyed) → int_max (pos by) (high (map (moved_key (pos by)) ks)) ≡ pos (by + above ks)
unfolding above
high_moved by [] = none_moved by
high_moved by (k ∷ ks) = one_moved k.key (high (map (moved_key (pos by)) ks)) by (above ks) (high_moved by ks)

greater : (m by n : ℕ) → m < by → int_max (pos m) (pos (by + n)) ≡ pos (by + n)
greater m by n less = omega (arith, ints, int_max_is (pos m) (pos (by + n)))

-- the first picture's key is 0
own_key : (n : ℕ) → n < 2 ^ 32 → key_of n n ≡ pos 0
own_key n small = let same : (n + (2 ^ 32 - n)) % 2 ^ 32 ≡ 0 = omega arith in ap (cast_signed w32) same

from_none : (by : ℕ) → pos 0 +ℤ pos by ≡ pos by
from_none by = omega (arith, ints)

none_max : (n : ℕ) → max 0 n ≡ n
none_max n = omega arith

-- the greatest key of both
pub high_onto : (ks : List Keyed) (ps : List PictureText) (m by : ℕ) → high ks ≡ pos m → m < by → 0 < length ps → first_number ps < 2 ^ 32
    → high (ks ++ map (moved_key (pos by)) (map (keyed_from (first_number ps)) ps)) ≡ pos (by + above (map (keyed_from (first_number ps)) ps))
unfolding above
high_onto ks [] m by is less some small = absurd (omega arith)
high_onto ks (p ∷ ps) m by is less some small =
    let n = number_in_payload p.payload in
    let later = map (keyed_from n) (p ∷ ps) in
    let rest = map (keyed_from n) ps in
    let first : key_of n n ≡ pos 0 = own_key n small in
    let top : high (map (moved_key (pos by)) later) ≡ pos (by + above rest) =
    ap (λ z. int_max (z +ℤ pos by) (high (map (moved_key (pos by)) rest))) first
    ∙ ap (λ z. int_max z (high (map (moved_key (pos by)) rest))) (from_none by) ∙ high_moved by rest in
    let same : above later ≡ above rest = ap (λ z. max (up z) (above rest)) first ∙ none_max (above rest) in
    high_append ks (map (moved_key (pos by)) later) ∙ ap₂ int_max is top ∙ greater m by (above rest) less ∙ ap (λ n. pos (by + n)) (sym same)

-- ---- numbers

own_way : (first n : ℕ) → first < 2 ^ 32 → (n + (first + 0 + (2 ^ 32 - first))) % 2 ^ 32 ≡ (n + 0) % 2 ^ 32
own_way first n small = omega arith

own_number : (first n : ℕ) → first < 2 ^ 32 → new_number first (key_of first n) ≡ (n + 0) % 2 ^ 32
own_number first n small =
    let m : NumberMoves first first 0 n = number_moves first first 0 n small small (omega arith) (key_inside first n) in
    ap (new_number first) (sym (add_none (key_of first n))) ∙ m.number ∙ own_way first n small

pub own_texts : (first : ℕ) (ps : List PictureText) → first < 2 ^ 32 → map (renumbered first) (map (keyed_from first) ps) ≡ map (moved_on 0) ps
own_texts first [] small = refl
own_texts first (p ∷ ps) small =
    ap₂ (λ (n : ℕ) (rest : List PictureText). let q : PictureText = record p { payload = to_be_bytes w32 n ++ drop 4 p.payload } in q ∷ rest)
    (own_number first (number_in_payload p.payload) small) (own_texts first ps small)

way_is : (former first by n way : ℕ) → former < 2 ^ 32 → first < 2 ^ 32 → way ≡ ((former + by) % 2 ^ 32 + (2 ^ 32 - first)) % 2 ^ 32
    → (n + (former + by + (2 ^ 32 - first))) % 2 ^ 32 ≡ (n + way) % 2 ^ 32
way_is former first by n way small small' is = omega (arith, is)

lower : (z top : ℤ) (by : ℕ) → z ≤ℤ top → (top +ℤ pos by) ≤ℤ pos (2 ^ 31 - 1) → (z +ℤ pos by) ≤ℤ pos (2 ^ 31 - 1)
lower z top by low most = omega (arith, ints)

pub moved_texts_are : (former first by way : ℕ) (top : ℤ) (ps : List PictureText) → former < 2 ^ 32 → first < 2 ^ 32 → by < 2 ^ 31 → (top +ℤ pos by) ≤ℤ pos (2 ^ 31 - 1)
    → way ≡ ((former + by) % 2 ^ 32 + (2 ^ 32 - first)) % 2 ^ 32 → AreAtMost top (keys_in (map (keyed_from first) ps))
    → map (renumbered former) (map (moved_key (pos by)) (map (keyed_from first) ps)) ≡ map (moved_on way) ps
moved_texts_are former first by way top [] small small' less most is all = refl
moved_texts_are former first by way top (p ∷ ps) small small' less most is all =
    let n = number_in_payload p.payload in
    let m : NumberMoves former first by n = number_moves former first by n small small' less (lower (key_of first n) top by all.0 most) in
    ap₂ (λ (n : ℕ) (rest : List PictureText). let q : PictureText = record p { payload = to_be_bytes w32 n ++ drop 4 p.payload } in q ∷ rest)
    (m.number ∙ way_is former first by n way small small' is) (moved_texts_are former first by way top ps small small' less most is all.1)

-- ---- keys, picture by picture

max_three : (a b c : ℕ) → max (max a b) c ≡ max a (max b c)
max_three a b c = omega arith

max_none : (a : ℕ) → max a 0 ≡ a
max_none a = omega arith

pub above_more : (first : ℕ) (pictures : List PictureText) (i : ℕ) (p : PictureText) (m m' n : ℕ) → i < length pictures → p ≡ get_or pictures i p
    → max m (above (map (keyed_from first) (drop i pictures))) ≡ above (map (keyed_from first) pictures) → n ≡ up (key_of first (number_in_payload p.payload)) → m' ≡ max m n
    → max m' (above (map (keyed_from first) (drop (i + 1) pictures))) ≡ above (map (keyed_from first) pictures)
unfolding above
above_more first pictures i p m m' n inside is so key next =
    let rest = above (map (keyed_from first) (drop (i + 1) pictures)) in
    ap (λ k. max k rest) (next ∙ ap (max m) key) ∙ max_three m (up (key_of first (number_in_payload p.payload))) rest
    ∙ sym (ap (λ ps. max m (above (map (keyed_from first) ps))) (left_at pictures i p inside is)) ∙ so

pub below_more : (first : ℕ) (pictures : List PictureText) (i : ℕ) (p : PictureText) (m m' n : ℕ) → i < length pictures → p ≡ get_or pictures i p
    → max m (below (map (keyed_from first) (drop i pictures))) ≡ below (map (keyed_from first) pictures) → n ≡ down (key_of first (number_in_payload p.payload)) → m' ≡ max m n
    → max m' (below (map (keyed_from first) (drop (i + 1) pictures))) ≡ below (map (keyed_from first) pictures)
unfolding below
below_more first pictures i p m m' n inside is so key next =
    let rest = below (map (keyed_from first) (drop (i + 1) pictures)) in
    ap (λ k. max k rest) (next ∙ ap (max m) key) ∙ max_three m (down (key_of first (number_in_payload p.payload))) rest
    ∙ sym (ap (λ ps. max m (below (map (keyed_from first) ps))) (left_at pictures i p inside is)) ∙ so

pub keys_are : (pictures : List PictureText) (first a b i : ℕ) → length pictures ≤ i → first ≡ first_number pictures
    → max a (above (map (keyed_from first) (drop i pictures))) ≡ above (map (keyed_from first) pictures)
    → max b (below (map (keyed_from first) (drop i pictures))) ≡ below (map (keyed_from first) pictures)
    → ◌≡◌ {A = Keys} (record { first = first; above = a; below = b }) (keys_among pictures)
unfolding above below
keys_are pictures first a b i past is so so' =
    let a_is = sym (max_none a) ∙ sym (ap (λ ps. max a (above (map (keyed_from first) ps))) (drop_all i pictures past)) ∙ so in
    let b_is = sym (max_none b) ∙ sym (ap (λ ps. max b (below (map (keyed_from first) ps))) (drop_all i pictures past)) ∙ so' in
    ap₂ (λ (m n : ℕ). let k : Keys = record { first = first; above = m; below = n } in k) a_is b_is
    ∙ ap (λ (f : ℕ). let k : Keys = record { first = f; above = above (map (keyed_from f) pictures); below = below (map (keyed_from f) pictures) } in k) is
