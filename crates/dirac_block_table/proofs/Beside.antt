-- A place's neighbours are what stands one place left of it and above it.
use Rattle.std.proofs.Common.{◌≡◌, ℕ, ◌-◌, ◌==◌, inl, inr, Bool, Option, None, sym, ap, ap₂, ◌∙◌, arith}
use Rattle.std.specs.Prelude.{if◌then◌else◌, nat_lt}
use Rattle.std.proofs.lemmas.Bool.{cases_eq, eq-eqb, ne_eqb, lt-ltb, le-ltb}
use Rattle.dirac_block_table.specs.Neighbours.{left_of, above_of, corner_of, near_at, predicted}

below_one : (n : ℕ) → nat_lt n 1 ≡ (n == 0)
below_one n =
    elim (cases_eq n 0) [
      | inl e ↦ lt-ltb n 1 (omega arith) ∙ sym (eq-eqb n 0 e)
      | inr m ↦ le-ltb n 1 (omega arith) ∙ sym (ne_eqb n 0 m)
    ]

near_left : {A : Type 0} (at : ℕ → ℕ → Option A) (i j : ℕ) → near_at at i j 1 0 ≡ left_of at i j
near_left {A = A} at i j =
    let none : Option A = None in
    let same : j - 0 ≡ j = omega arith in
    ap₂ (λ (a b : Bool). if a then none else (if b then none else at (i - 1) (j - 0))) (below_one i) (le-ltb j 0 (omega arith))
    ∙ ap (λ (k : ℕ). if i == 0 then none else at (i - 1) k) same

near_above : {A : Type 0} (at : ℕ → ℕ → Option A) (i j : ℕ) → near_at at i j 0 1 ≡ above_of at i j
near_above {A = A} at i j =
    let none : Option A = None in
    let same : i - 0 ≡ i = omega arith in
    ap₂ (λ (a b : Bool). if a then none else (if b then none else at (i - 0) (j - 1))) (le-ltb i 0 (omega arith)) (below_one j)
    ∙ ap (λ (k : ℕ). if j == 0 then none else at k (j - 1)) same

near_corner : {A : Type 0} (at : ℕ → ℕ → Option A) (i j : ℕ) → near_at at i j 1 1 ≡ corner_of at i j
near_corner {A = A} at i j =
    let none : Option A = None in
    ap₂ (λ (a b : Bool). if a then none else (if b then none else at (i - 1) (j - 1))) (below_one i) (below_one j)

-- what is predicted from what stands there
pub predicted_from : {A B : Type 0} (prediction : Option A → Option A → Option A → B) (at : ℕ → ℕ → Option A) (i j : ℕ) (l a c : Option A)
    → l ≡ near_at at i j 1 0 → a ≡ near_at at i j 0 1 → c ≡ near_at at i j 1 1 → prediction l a c ≡ predicted prediction at i j
predicted_from {A = A} prediction at i j l a c p q r =
    ap (λ (o : Option A). prediction o a c) (p ∙ near_left at i j)
    ∙ ap (λ (o : Option A). prediction (left_of at i j) o c) (q ∙ near_above at i j)
    ∙ ap (λ (o : Option A). prediction (left_of at i j) (above_of at i j) o) (r ∙ near_corner at i j)
