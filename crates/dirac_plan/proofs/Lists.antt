-- Lists that are joined of pieces, by places and by sums.
use Rattle.std.proofs.Common.{◌≡◌, ℕ, zero, suc, ◌+◌, ◌-◌, ◌*◌, ◌<◌, ◌≤◌, List, [], ◌∷◌, ◌++◌, None, Some, map, length, take, drop, remove, slice_get, refl, ap, ap₂, sym, ◌∙◌, arith, sum_by}
use Rattle.std.specs.List.{flat_map, range_with_len}
use Rattle.std.proofs.lemmas.List.{map-append, take-map, drop-map}
use Rattle.std.proofs.lemmas.List.Sums.{sum_by-append, sum_by-cons}

-- an item of a front, and one of what is behind it
pub get_front : {X : Type 0} (xs ys : List X) (i : ℕ) (x : X) → slice_get xs i ≡ Some x → slice_get (xs ++ ys) i ≡ Some x
get_front [] ys i x e = let s : None ≡ Some x = e in cc
get_front (y ∷ xs) ys zero x e = e
get_front (y ∷ xs) ys (suc i) x e = get_front xs ys i x e

pub get_behind : {X : Type 0} (xs ys : List X) (n i j : ℕ) (x : X) → length xs ≡ n → n + i ≡ j → slice_get ys i ≡ Some x → slice_get (xs ++ ys) j ≡ Some x
get_behind [] ys n i j x l p e = let same : j ≡ i = omega arith in ap (slice_get ys) same ∙ e
get_behind (y ∷ xs) ys n i zero x l p e = absurd (omega arith)
get_behind (y ∷ xs) ys n i (suc j) x l p e = get_behind xs ys (n - 1) i j x (omega arith) (omega arith) e

-- pieces of w items each, up to the one that is looked at: item j of piece i
pub get_joined : {X : Type 0} (f : ℕ → List X) (w a n i j k p : ℕ) (x : X) → i < n → a + i ≡ k → i * w + j ≡ p
    → ((m : ℕ) → a ≤ m → m < k → length (f m) ≡ w) → slice_get (f k) j ≡ Some x → slice_get (flat_map f (range_with_len a n)) p ≡ Some x
get_joined f w a zero i j k p x h ek ep all e = absurd (omega arith)
get_joined f w a (suc n) zero j k p x h ek ep all e =
    let here : a ≡ k = omega arith in
    let place : p ≡ j = omega arith in
    get_front (f a) (flat_map f (range_with_len (a + 1) n)) p x (ap (λ m. slice_get (f m) p) here ∙ ap (slice_get (f k)) place ∙ e)
get_joined f w a (suc n) (suc i) j k p x h ek ep all e =
    get_behind (f a) (flat_map f (range_with_len (a + 1) n)) w (i * w + j) p x (all a (omega arith) (omega arith)) (omega arith)
    (get_joined f w (a + 1) n i j k (i * w + j) x (omega arith) (omega arith) refl (λ m l. all m (omega arith)) e)

-- item p of a piece stands behind the pieces before it
pub get_piece : {X Y : Type 0} (f : X → List Y) (xs : List X) (i p place : ℕ) (x : X) (y : Y) → slice_get xs i ≡ Some x → slice_get (f x) p ≡ Some y
    → sum_by (λ z. length (f z)) (take i xs) + p ≡ place → slice_get (flat_map f xs) place ≡ Some y
get_piece f [] i p place x y at here e = let s : None ≡ Some x = at in absurd (cc)
get_piece f (z ∷ xs) zero p place x y at here e =
    let s : Some z ≡ Some x = at in
    let same : z ≡ x = cc in
    let first : place ≡ p = omega arith in
    get_front (f z) (flat_map f xs) place y (ap (λ w. slice_get (f w) place) same ∙ ap (slice_get (f x)) first ∙ here)
get_piece f (z ∷ xs) (suc i) p place x y at here e =
    let whole = sum_by-cons (λ w. length (f w)) z (take i xs) in
    let rest : ℕ = sum_by (λ w. length (f w)) (take i xs) + p in
    get_behind (f z) (flat_map f xs) (length (f z)) rest place y refl (omega arith) (get_piece f xs i p rest x y at here refl)

-- an item and the fronts before it and up to it
pub sum_around : {X : Type 0} (f : X → ℕ) (xs : List X) (i : ℕ) (x : X) → slice_get xs i ≡ Some x
    → (sum_by f (take (suc i) xs) ≡ sum_by f (take i xs) + f x) × (sum_by f (take (suc i) xs) ≤ sum_by f xs)
sum_around f [] i x at = let s : None ≡ Some x = at in absurd (cc)
sum_around f (y ∷ xs) zero x at =
    let s : Some y ≡ Some x = at in
    let same : f y ≡ f x = ap f (let t : y ≡ x = cc in t) in
    (omega (arith, sum_by-cons f y []), omega (arith, sum_by-cons f y [], sum_by-cons f y xs))
sum_around f (y ∷ xs) (suc i) x at =
    let rest = sum_around f xs i x at in
    let longer = sum_by-cons f y (take (suc i) xs) in
    let front = sum_by-cons f y (take i xs) in
    let whole = sum_by-cons f y xs in
    (omega (arith, rest.0), omega (arith, rest.1))

-- longer fronts don't weigh less
pub sum_fronts : {X : Type 0} (f : X → ℕ) (xs : List X) (i j : ℕ) → i ≤ j → sum_by f (take i xs) ≤ sum_by f (take j xs)
sum_fronts f xs zero j h = omega arith
sum_fronts f [] (suc i) j h = omega arith
sum_fronts f (x ∷ xs) (suc i) zero h = absurd (omega arith)
sum_fronts f (x ∷ xs) (suc i) (suc j) h =
    let rest = sum_fronts f xs i j (omega arith) in
    let shorter = sum_by-cons f x (take i xs) in
    let longer = sum_by-cons f x (take j xs) in
    omega arith

-- an item of a mapped range
pub get_mapped : {X : Type 0} (f : ℕ → X) (a n i j : ℕ) → i < n → a + i ≡ j → slice_get (map f (range_with_len a n)) i ≡ Some (f j)
get_mapped f a zero i j h e = absurd (omega arith)
get_mapped f a (suc n) zero j h e = let same : a ≡ j = omega arith in ap (λ m. Some (f m)) same
get_mapped f a (suc n) (suc i) j h e = get_mapped f (a + 1) n i j (omega arith) (omega arith)

-- an item is taken out of a mapped list
pub remove-map : {X Y : Type 0} (f : X → Y) (xs : List X) (i : ℕ) → map f (remove xs i) ≡ remove (map f xs) i
remove-map {X} {Y} f xs i =
    map-append f (take i xs) (drop (suc i) xs)
    ∙ sym (ap₂ (λ (a b : List Y). a ++ b) (take-map f i xs) (drop-map f (suc i) xs))

-- two ranges, one behind the other
pub range_split : (a m n b : ℕ) → a + m ≡ b → range_with_len a (m + n) ≡ range_with_len a m ++ range_with_len b n
range_split a zero n b e = let same : a ≡ b = omega arith in let all : zero + n ≡ n = omega arith in ap (range_with_len a) all ∙ ap (λ c. range_with_len c n) same
range_split a (suc m) n b e =
    let all : suc m + n ≡ suc (m + n) = omega arith in
    ap (range_with_len a) all ∙ ap (λ l. a ∷ l) (range_split (a + 1) m n b (omega arith))

pub sum_ranges : (f : ℕ → ℕ) (a m n b c : ℕ) → a + m ≡ b → m + n ≡ c → sum_by f (range_with_len a m) + sum_by f (range_with_len b n) ≡ sum_by f (range_with_len a c)
sum_ranges f a m n b c e s =
    let all : range_with_len a c ≡ range_with_len a m ++ range_with_len b n = ap (range_with_len a) (let t : c ≡ m + n = omega arith in t) ∙ range_split a m n b e in
    omega (arith, sum_by-append f (range_with_len a m) (range_with_len b n), ap (sum_by f) all)
