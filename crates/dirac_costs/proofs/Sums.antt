-- Sums: one number more, equal numbers, sums of sums.
use Rattle.std.proofs.Common.{◌-◌, ◌≡◌, ℕ, ℤ, zero, suc, ◌+◌, ◌*◌, ◌<◌, ◌≤◌, ◌+ℤ◌, add-one, arith, refl, ap, sym}
use Rattle.std.proofs.Math.Nat.{mul-add, suc-mul}
use Rattle.dirac_costs.specs.Sums.{sum_below, total_below}

pub sum_more : (f : ℕ → ℕ) (n : ℕ) → sum_below f (n + 1) ≡ sum_below f n + f n
sum_more f n = rw (add-one n) refl

pub total_more : (f : ℕ → ℤ) (n : ℕ) → total_below f (n + 1) ≡ total_below f n +ℤ f n
total_more f n = rw (add-one n) refl

-- equal numbers have equal sums
pub sum_same : (f g : ℕ → ℕ) (n : ℕ) → ((k : ℕ) → k < n → f k ≡ g k) → sum_below f n ≡ sum_below g n
sum_same f g zero h = refl
sum_same f g (suc n) h = omega (arith, sum_same f g n (λ k l. h k (omega arith)), h n (omega arith))

pub total_same : (f g : ℕ → ℤ) (n : ℕ) → ((k : ℕ) → k < n → f k ≡ g k) → total_below f n ≡ total_below g n
total_same f g zero h = refl
total_same f g (suc n) h = rw (total_same f g n (λ k l. h k (omega arith)), h n (omega arith)) refl

-- a sum of two parts
pub sum_joined : (f : ℕ → ℕ) (n m : ℕ) → sum_below f (n + m) ≡ sum_below f n + sum_below (λ k. f (n + k)) m
sum_joined f n zero = omega (arith, ap (sum_below f) (plus_zero n)) where
  plus_zero : (k : ℕ) → k + 0 ≡ k
  plus_zero k = omega arith
sum_joined f n (suc m) =
    omega (arith, sum_joined f n m, ap (sum_below f) (plus_suc n m)) where
      plus_suc : (k j : ℕ) → k + suc j ≡ suc (k + j)
      plus_suc k j = omega arith

-- a sum of many equal parts
pub sum_parts : (f : ℕ → ℕ) (n count : ℕ) → sum_below f (n * count) ≡ sum_below (λ i. sum_below (λ k. f (i * count + k)) count) n
sum_parts f zero count = ap (sum_below f) (no_parts count) where
  no_parts : (k : ℕ) → zero * k ≡ 0
  no_parts k = omega arith
sum_parts f (suc n) count =
    omega (arith, sum_parts f n count, sum_joined f (n * count) count, ap (sum_below f) (suc-mul n count))

-- sums of two numbers each
pub sum_added : (f g : ℕ → ℕ) (n : ℕ) → sum_below (λ k. f k + g k) n ≡ sum_below f n + sum_below g n
sum_added f g zero = refl
sum_added f g (suc n) = omega (arith, sum_added f g n)

pub sum_zeros : (n : ℕ) → sum_below (λ k. 0) n ≡ 0
sum_zeros zero = refl
sum_zeros (suc n) = omega (arith, sum_zeros n)

-- rows first or columns first
pub sum_turned : (f : ℕ → ℕ → ℕ) (n m : ℕ) → sum_below (λ a. sum_below (f a) m) n ≡ sum_below (λ b. sum_below (λ a. f a b) n) m
sum_turned f zero m = sym (sum_zeros m)
sum_turned f (suc n) m =
    omega (arith, sum_turned f n m, sum_added (λ b. sum_below (λ a. f a b) n) (f n) m)

-- a longer sum is no smaller
pub sum_grows : (f : ℕ → ℕ) (n m : ℕ) → n ≤ m → sum_below f n ≤ sum_below f m
sum_grows f n m l =
    let whole : n + (m - n) ≡ m = omega arith in
    omega (arith, sum_joined f n (m - n), ap (sum_below f) whole)

-- a sum of small numbers
pub sum_bounded : (f : ℕ → ℕ) (most n : ℕ) → ((k : ℕ) → k < n → f k ≤ most) → sum_below f n ≤ most * n
sum_bounded f most zero h = omega arith
sum_bounded f most (suc n) h =
    omega (arith, sum_bounded f most n (λ k l. h k (omega arith)), h n (omega arith), mul-add most n 1)
