-- What holds of each item of a list.
use Rattle.std.proofs.Common.{◌≡◌, ℕ, zero, suc, ◌+◌, ◌<◌, ◌≤◌, List, [], ◌∷◌, ◌++◌, None, Some, map, take, drop, slice_get, refl, subst, arith}
use Rattle.std.specs.List.{AllByRecursion, flat_map, range_with_len}

pub each_append : {X : Type 0} (P : X → Type 0) (xs ys : List X) → AllByRecursion P xs → AllByRecursion P ys → AllByRecursion P (xs ++ ys)
each_append P [] ys a b = b
each_append P (x ∷ xs) ys a b = (a.0, each_append P xs ys a.1 b)

pub each_take : {X : Type 0} (P : X → Type 0) (n : ℕ) (xs : List X) → AllByRecursion P xs → AllByRecursion P (take n xs)
each_take P zero xs a = tt
each_take P (suc n) [] a = tt
each_take P (suc n) (x ∷ xs) a = (a.0, each_take P n xs a.1)

pub each_drop : {X : Type 0} (P : X → Type 0) (n : ℕ) (xs : List X) → AllByRecursion P xs → AllByRecursion P (drop n xs)
each_drop P zero xs a = a
each_drop P (suc n) [] a = tt
each_drop P (suc n) (x ∷ xs) a = each_drop P n xs a.1

pub each_at : {X : Type 0} (P : X → Type 0) (xs : List X) (i : ℕ) (x : X) → AllByRecursion P xs → slice_get xs i ≡ Some x → P x
each_at P [] i x a e = let s : None ≡ Some x = e in absurd (cc)
each_at P (y ∷ xs) zero x a e =
    let s : Some y ≡ Some x = e in
    let same : y ≡ x = cc in
    subst P same a.0
each_at P (y ∷ xs) (suc i) x a e = each_at P xs i x a.1 e

pub each_by : {X : Type 0} (P : X → Type 0) (xs : List X) → ((i : ℕ) (x : X) → slice_get xs i ≡ Some x → P x) → AllByRecursion P xs
each_by P [] h = tt
each_by P (x ∷ xs) h = (h 0 x refl, each_by P xs (λ i y. h (suc i) y))

pub each_joined : {X : Type 0} (P : X → Type 0) (f : ℕ → List X) (a n : ℕ) → ((k : ℕ) → a ≤ k → k < a + n → AllByRecursion P (f k)) → AllByRecursion P (flat_map f (range_with_len a n))
each_joined P f a zero h = tt
each_joined P f a (suc n) h = each_append P (f a) (flat_map f (range_with_len (a + 1) n)) (h a (omega arith) (omega arith)) (each_joined P f (a + 1) n (λ k low high. h k (omega arith) (omega arith)))

pub each_mapped : {X : Type 0} (P : X → Type 0) (f : ℕ → X) (a n : ℕ) → ((k : ℕ) → a ≤ k → k < a + n → P (f k)) → AllByRecursion P (map f (range_with_len a n))
each_mapped P f a zero h = tt
each_mapped P f a (suc n) h = (h a (omega arith) (omega arith), each_mapped P f (a + 1) n (λ k low high. h k (omega arith) (omega arith)))

pub each_more : {X : Type 0} (P Q : X → Type 0) (xs : List X) → ((x : X) → P x → Q x) → AllByRecursion P xs → AllByRecursion Q xs
each_more P Q [] h a = tt
each_more P Q (x ∷ xs) h a = (h x a.0, each_more P Q xs h a.1)
