-- Pictures of greater keys leave behind all those of lesser ones.
use Rattle.std.proofs.Common.{◌≡◌, ◌<◌, ◌≤◌, ◌+◌, ◌-◌, ◌⊎◌, List, [], ◌∷◌, ◌++◌, length, get_or, take, drop, ℕ, ℤ, zero, suc, le-leb, Bool, true, false, if◌then◌else◌, refl, sym, ◌∙◌, ap, ap₂, subst, arith, inl, inr, length-append, append_assoc, append-nil}
use Rattle.std.specs.Prelude.{int_lt, nat_le, ◌≤ℤ◌, slice_get}
use Rattle.std.specs.List.{All, remove}
use Rattle.std.proofs.lemmas.Bool.{leb-true, leb-false}
use Rattle.std.proofs.lemmas.Int.{ints}
use Rattle.std.proofs.lemmas.List.Elements.{All-append, All-drop, All-take, All-cons, All-nil, All-get_or}
use Rattle.dirac_common.specs.declared.picture.Picture.{Picture}
use Rattle.dirac_refs.specs.declared.waiting.Waiting.{Waiting}
use Rattle.dirac_refs.specs.Delivery.{Leaving, delivered, in_delivery_order, flushed, flushed_by, key_at, key_in, least, least_among, least_place, others, picture_of, pushed_all}
use Rattle.dirac_refs.proofs.Least.{is_least, leaves_first}
use Rattle.dirac_content.specs.Sequences.{flushed_behind}
use Rattle.dirac_content.proofs.Flushing.{pushed_append}
use Rattle.dirac_edit_laws.specs.Later.{AreNotBefore, GreaterKeysLeaveLater}

-- ---- places of two lists, one behind the other

get_front : (ws vs : List Waiting) (n : ℕ) → n < length ws → slice_get (ws ++ vs) n ≡ slice_get ws n
get_front [] vs n l = absurd (omega arith)
get_front (w ∷ ws) vs zero l = refl
get_front (w ∷ ws) vs (suc n) l = get_front ws vs n (omega arith)

remove_front : (ws vs : List Waiting) (n : ℕ) → n < length ws → remove (ws ++ vs) n ≡ remove ws n ++ vs
remove_front [] vs n l = absurd (omega arith)
remove_front (w ∷ ws) vs zero l = refl
remove_front (w ∷ ws) vs (suc n) l = ap (λ t. w ∷ t) (remove_front ws vs n (omega arith))

pub length_remove : (ws : List Waiting) (n : ℕ) → n < length ws → suc (length (remove ws n)) ≡ length ws
length_remove [] n l = absurd (omega arith)
length_remove (w ∷ ws) zero l = refl
length_remove (w ∷ ws) (suc n) l = ap suc (length_remove ws n (omega arith))

-- where more than four wait, one leaves
abbrev pub left_from : Bool → List Waiting → Leaving
left_from few ws = if few then record { waiting = ws; gone = [] } else record { waiting = others ws; gone = least ws }

-- ---- what holds of all that are pushed holds of those that wait

all_remove : (P : Waiting → Type 0) (ws : List Waiting) (n : ℕ) → All P ws → All P (remove ws n)
all_remove P ws n all = All-append P (take n ws) (drop (suc n) ws) (All-take P n ws all) (All-drop P (suc n) ws all)

all_delivered : (P : Waiting → Type 0) (ws : List Waiting) (b : Bool) → All P ws → All P (left_from b ws).waiting
all_delivered P ws true all = all
all_delivered P ws false all = all_remove P ws (least_place ws) all

all_pushed : (P : Waiting → Type 0) (xs ws : List Waiting) → All P ws → All P xs → All P (pushed_all ws xs).waiting
all_pushed P [] ws all more = all
all_pushed P (x ∷ xs) ws all more =
    let one : P x = All-get_or P (x ∷ xs) 0 x (omega arith) more in
    let both = All-append P ws (x ∷ []) all (All-cons P x [] one (All-nil P)) in
    all_pushed P xs (delivered (ws ++ x ∷ [])).waiting (all_delivered P (ws ++ x ∷ []) (nat_le (length (ws ++ x ∷ [])) 4) both) (All-drop P 1 (x ∷ xs) more)

-- no more than four wait
few_delivered : (ws : List Waiting) (b : Bool) → nat_le (length ws) 4 ≡ b → length ws ≤ 5 → length (left_from b ws).waiting ≤ 4
few_delivered ws true is few = leb-true (length ws) 4 is
few_delivered ws false is few =
    let many = leb-false (length ws) 4 is in
    let first = leaves_first ws (omega (arith, many)) in
    omega (arith, length_remove ws (least_place ws) first.waits)

few_wait : (xs ws : List Waiting) → length ws ≤ 4 → length (pushed_all ws xs).waiting ≤ 4
few_wait [] ws few = few
few_wait (x ∷ xs) ws few =
    few_wait xs (delivered (ws ++ x ∷ [])).waiting (few_delivered (ws ++ x ∷ []) (nat_le (length (ws ++ x ∷ [])) 4) refl (omega (arith, length-append ws (x ∷ []))))

-- ---- the least key of both lists is the least of the former

least_front : (ws vs : List Waiting) (n : ℕ) → n < length ws → least_among (ws ++ vs) n ≡ least_among ws n
unfolding least_among
least_front ws vs zero l = refl
least_front ws vs (suc n) l =
    let before = least_front ws vs n (omega arith) in
    let inside : least_among ws n < length ws = omega (arith, (is_least ws n).inside) in
    let here : key_at (ws ++ vs) (suc n) ≡ key_at ws (suc n) = ap key_in (get_front ws vs (suc n) l) in
    let there : key_at (ws ++ vs) (least_among (ws ++ vs) n) ≡ key_at ws (least_among ws n) = ap (key_at (ws ++ vs)) before ∙ ap key_in (get_front ws vs (least_among ws n) inside) in
    ap₂ (λ (b : Bool) (m : ℕ). if b then suc n else m) (ap₂ (λ a b. int_lt a b) here there) before

-- further places have no lesser key
least_behind : (all : List Waiting) (place n m : ℕ) → n ≤ m → least_among all n ≡ place → ((j : ℕ) → n < j → j ≤ m → int_lt (key_at all j) (key_at all place) ≡ false) → least_among all m ≡ place
unfolding least_among
least_behind all place n zero l is later = let same : zero ≡ n = omega arith in ap (least_among all) same ∙ is
least_behind all place n (suc m) l is later = elim (ends n m l) [
  | inl low ↦ one_more all place m (least_behind all place n m low is (λ j h h'. later j h (omega arith))) (later (suc m) (omega arith) (omega arith))
  | inr same ↦ ap (least_among all) same ∙ is
]
  where
    ends : (n m : ℕ) → n ≤ suc m → (n ≤ m) ⊎ (suc m ≡ n)
    ends n m l = grind arith

    one_more : (all : List Waiting) (place m : ℕ) → least_among all m ≡ place → int_lt (key_at all (suc m)) (key_at all place) ≡ false → least_among all (suc m) ≡ place
    one_more all place m before test =
        ap (λ (b : Bool). if b then suc m else least_among all m) (ap (λ k. int_lt (key_at all (suc m)) (key_at all k)) before ∙ test) ∙ before

get_behind : (ws vs : List Waiting) (k j : ℕ) → j ≡ length ws + k → slice_get (ws ++ vs) j ≡ slice_get vs k
get_behind [] vs k j e = let same : j ≡ k = omega arith in ap (slice_get vs) same
get_behind (w ∷ ws) vs k zero e = absurd (omega arith)
get_behind (w ∷ ws) vs k (suc j) e = get_behind ws vs k j (omega arith)

-- the key at a place is that of a picture of the list
key_among : (Q : ℤ → Type 0) (ws : List Waiting) (n : ℕ) → n < length ws → All (λ (w : Waiting). Q w.key) ws → Q (key_at ws n)
key_among Q [] n l all = absurd (omega arith)
key_among Q (w ∷ ws) zero l all = All-get_or (λ (v : Waiting). Q v.key) (w ∷ ws) 0 w (omega arith) all
key_among Q (w ∷ ws) (suc n) l all = key_among Q ws n (omega arith) (All-drop (λ (v : Waiting). Q v.key) 1 (w ∷ ws) all)

keys_ordered : (ws vs : List Waiting) (n k : ℕ) → AreNotBefore vs ws → n < length ws → k < length vs → key_at ws n ≤ℤ key_at vs k
keys_ordered ws vs n k order l l' =
    let one = key_among (λ z. All (λ (y : Waiting). z ≤ℤ y.key) vs) ws n l order in
    key_among (λ z. key_at ws n ≤ℤ z) vs k l' one

not_less : (a b : ℤ) → a ≤ℤ b → int_lt b a ≡ false
not_less a b l = grind (arith, ints)

least_of_both : (ws vs : List Waiting) → 0 < length ws → AreNotBefore vs ws → least_place (ws ++ vs) ≡ least_place ws
least_of_both ws vs some order =
    let last = length ws - 1 in
    let place = least_among ws last in
    let inside : place < length ws = omega (arith, (is_least ws last).inside) in
    let long = length-append ws vs in
    least_behind (ws ++ vs) place last (length (ws ++ vs) - 1) (omega (arith, long)) (least_front ws vs last (omega arith))
    (λ j h h'.
    let k = j - length ws in
    let there : key_at (ws ++ vs) j ≡ key_at vs k = ap key_in (get_behind ws vs k j (omega arith)) in
    let here : key_at (ws ++ vs) place ≡ key_at ws place = ap key_in (get_front ws vs place inside) in
    ap₂ (λ a b. int_lt a b) there here ∙ not_less (key_at ws place) (key_at vs k) (keys_ordered ws vs place k order inside (omega (arith, long))))

place_inside : (ws : List Waiting) → 0 < length ws → least_place ws < length ws
place_inside ws some = (leaves_first ws some).waits

leaves_of_both : (ws vs : List Waiting) → 0 < length ws → AreNotBefore vs ws → least (ws ++ vs) ≡ least ws
leaves_of_both ws vs some order =
    ap (λ n. picture_of (slice_get (ws ++ vs) n)) (least_of_both ws vs some order) ∙ ap picture_of (get_front ws vs (least_place ws) (place_inside ws some))

others_of_both : (ws vs : List Waiting) → 0 < length ws → AreNotBefore vs ws → others (ws ++ vs) ≡ others ws ++ vs
others_of_both ws vs some order = ap (remove (ws ++ vs)) (least_of_both ws vs some order) ∙ remove_front ws vs (least_place ws) (place_inside ws some)

-- ---- all that wait

flushed_both : (n m : ℕ) (ws vs : List Waiting) → length ws ≡ n → length (ws ++ vs) ≡ m → AreNotBefore vs ws → flushed_by m (ws ++ vs) ≡ flushed_by n ws ++ flushed vs
flushed_both zero m [] vs e e' order = ap (λ k. flushed_by k vs) (sym e')
flushed_both zero m (w ∷ ws) vs e e' order = absurd (omega arith)
flushed_both (suc n) m [] vs e e' order = absurd (omega arith)
flushed_both (suc n) zero (w ∷ ws) vs e e' order = absurd (omega arith)
flushed_both (suc n) (suc m) (w ∷ ws) vs e e' order =
    let all = w ∷ ws in
    let some : 0 < length all = omega arith in
    let less = length_remove all (least_place all) (place_inside all some) in
    let rest : flushed_by m (others all ++ vs) ≡ flushed_by n (others all) ++ flushed vs =
    flushed_both n m (others all) vs (omega (arith, less)) (omega (arith, less, length-append (others all) vs, length-append all vs)) (all_remove (λ (x : Waiting). All (λ (y : Waiting). x.key ≤ℤ y.key) vs) all (least_place all) order) in
    ap₂ (λ (a b : List Picture). a ++ b) (leaves_of_both all vs some order) (ap (flushed_by m) (others_of_both all vs some order) ∙ rest)
    ∙ sym (append_assoc (least all) (flushed_by n (others all)) (flushed vs))

flushed_one : (ws : List Waiting) → 0 < length ws → flushed ws ≡ least ws ++ flushed (others ws)
flushed_one ws some =
    let less = length_remove ws (least_place ws) (place_inside ws some) in
    ap (λ n. flushed_by n ws) (sym less)

-- ---- the later pictures are pushed

behind_more : (ws : List Waiting) (y : Waiting) (ys : List Waiting) → flushed_behind ws (y ∷ ys) ≡ (delivered (ws ++ y ∷ [])).gone ++ flushed_behind (delivered (ws ++ y ∷ [])).waiting ys
behind_more ws y ys =
    let now = delivered (ws ++ y ∷ []) in
    let later = pushed_all now.waiting ys in
    append_assoc now.gone later.gone (flushed later.waiting)

abbrev shown_with : Leaving → List Waiting → List Picture
shown_with l ys = l.gone ++ flushed_behind l.waiting ys

delivered_few : (ws ys : List Waiting) → length ws ≤ 4 → shown_with (delivered ws) ys ≡ flushed_behind ws ys
delivered_few ws ys few = ap (λ (b : Bool). shown_with (left_from b ws) ys) (le-leb (length ws) 4 few)

abbrev Splits : List Waiting → Type 0
Splits ys = (ws vs : List Waiting) → length (ws ++ vs) ≤ 4 → AreNotBefore (vs ++ ys) ws → flushed_behind (ws ++ vs) ys ≡ flushed ws ++ flushed_behind vs ys

front_order : (ws vs ys : List Waiting) → AreNotBefore (vs ++ ys) ws → AreNotBefore vs ws
front_order ws vs ys order k d l k' d' l' =
    subst (λ (v : Waiting). (get_or ws k d).key ≤ℤ v.key) (front vs ys k' d' l') (order k d l k' d' (omega (arith, length-append vs ys)))
  where
    front : (vs ys : List Waiting) (n : ℕ) (d : Waiting) → n < length vs → get_or (vs ++ ys) n d ≡ get_or vs n d
    front [] ys n d l = absurd (omega arith)
    front (v ∷ vs) ys zero d l = refl
    front (v ∷ vs) ys (suc n) d l = front vs ys n d (omega arith)

one_pushed : (ws vs ys : List Waiting) (b : Bool) → Splits ys → 0 < length ws → length ws + length vs ≤ 5 → length vs ≤ 4 → nat_le (length (ws ++ vs)) 4 ≡ b → AreNotBefore (vs ++ ys) ws
    → shown_with (left_from b (ws ++ vs)) ys ≡ flushed ws ++ flushed_behind vs ys
one_pushed ws vs ys true more some five four is order = more ws vs (leb-true (length (ws ++ vs)) 4 is) order
one_pushed ws vs ys false more some five four is order =
    let here = front_order ws vs ys order in
    let less = length_remove ws (least_place ws) (place_inside ws some) in
    let left : AreNotBefore (vs ++ ys) (others ws) = all_remove (λ (x : Waiting). All (λ (y : Waiting). x.key ≤ℤ y.key) (vs ++ ys)) ws (least_place ws) order in
    let rest = more (others ws) vs (omega (arith, less, length-append (others ws) vs)) left in
    ap₂ (λ (a : List Picture) (c : List Waiting). a ++ flushed_behind c ys) (leaves_of_both ws vs some here) (others_of_both ws vs some here)
    ∙ ap (λ (l : List Picture). least ws ++ l) rest
    ∙ sym (append_assoc (least ws) (flushed (others ws)) (flushed_behind vs ys))
    ∙ ap (λ (l : List Picture). l ++ flushed_behind vs ys) (sym (flushed_one ws some))

splits : (ys : List Waiting) → Splits ys
splits [] ws vs few order = flushed_both (length ws) (length (ws ++ vs)) ws vs refl refl (front_order ws vs [] order)
splits (y ∷ ys) [] vs few order = refl
splits (y ∷ ys) (w ∷ ws) vs few order =
    let all = w ∷ ws in
    let end = y ∷ [] in
    let ends = length-append all vs in
    let one = length-append vs end in
    let order' : AreNotBefore ((vs ++ end) ++ ys) all = subst (λ (l : List Waiting). AreNotBefore l all) (sym (append_assoc vs end ys)) order in
    behind_more (all ++ vs) y ys
    ∙ ap (λ (l : List Waiting). shown_with (delivered l) ys) (append_assoc all vs end)
    ∙ one_pushed all (vs ++ end) ys (nat_le (length (all ++ (vs ++ end))) 4) (splits ys) (omega arith) (omega (arith, ends, one)) (omega (arith, ends, one)) refl order'
    ∙ ap (λ (l : List Picture). flushed all ++ l) (sym (behind_more vs y ys ∙ delivered_few (vs ++ end) ys (omega (arith, ends, one))))

-- the law
pub later_leave_later : GreaterKeysLeaveLater
later_leave_later former later order =
    let first = pushed_all [] former in
    let second = pushed_all first.waiting later in
    let waits : AreNotBefore later first.waiting = all_pushed (λ (x : Waiting). All (λ (y : Waiting). x.key ≤ℤ y.key) later) former [] (All-nil (λ (x : Waiting). All (λ (y : Waiting). x.key ≤ℤ y.key) later)) order in
    let few : length (first.waiting ++ []) ≤ 4 = subst (λ (l : List Waiting). length l ≤ 4) (sym (append-nil first.waiting)) (few_wait former [] (omega arith)) in
    let parted : flushed_behind first.waiting later ≡ flushed first.waiting ++ in_delivery_order later =
    ap (λ (l : List Waiting). flushed_behind l later) (sym (append-nil first.waiting)) ∙ splits later first.waiting [] few waits in
    ap (λ (l : Leaving). l.gone ++ flushed l.waiting) (pushed_append [] former later)
    ∙ append_assoc first.gone second.gone (flushed second.waiting)
    ∙ ap (λ (l : List Picture). first.gone ++ l) parted
    ∙ sym (append_assoc first.gone (flushed first.waiting) (in_delivery_order later))
