-- Sums of numbers of which all but one or two are 0.
use Rattle.std.proofs.Common.{◌≡◌, ◌≢◌, ℕ, zero, suc, ◌+◌, ◌<◌, arith, inl, inr, ap}
use Rattle.std.proofs.lemmas.Bool.{cases_eq}
use Rattle.dirac_obmc.specs.Weights.{sum_below}

pub sum_none : (f : ℕ → ℕ) (n : ℕ) → ((i : ℕ) → i < n → f i ≡ 0) → sum_below f n ≡ 0
sum_none f zero h = omega arith
sum_none f (suc n) h =
    omega (arith, sum_none f n (λ i l. h i (omega arith)), h n (omega arith))

pub sum_one : (f : ℕ → ℕ) (n b : ℕ) → b < n → ((i : ℕ) → i < n → i ≢ b → f i ≡ 0) → sum_below f n ≡ f b
sum_one f zero b l h = absurd (omega arith)
sum_one f (suc n) b l h = elim (cases_eq b n) [
  | inl here ↦ omega (arith, sum_none f n (λ i k. h i (omega arith) (omega arith)), ap f here)
  | inr before ↦ omega (arith, sum_one f n b (omega arith) (λ i k. h i (omega arith)), h n (omega arith) (omega arith))
]

pub sum_two : (f : ℕ → ℕ) (n b : ℕ) → b + 1 < n → ((i : ℕ) → i < n → i ≢ b → i ≢ b + 1 → f i ≡ 0) → sum_below f n ≡ f b + f (b + 1)
sum_two f zero b l h = absurd (omega arith)
sum_two f (suc n) b l h = elim (cases_eq (b + 1) n) [
  | inl here ↦ omega (arith, sum_one f n b (omega arith) (λ i k d. h i (omega arith) d (omega arith)), ap f here)
  | inr before ↦ omega (arith, sum_two f n b (omega arith) (λ i k. h i (omega arith)), h n (omega arith) (omega arith) (omega arith))
]
