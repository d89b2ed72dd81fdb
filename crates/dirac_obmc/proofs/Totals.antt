-- Sums of values, and how large they are.
use Rattle.std.proofs.Common.{◌≡◌, ℕ, ℤ, pos, zero, suc, ◌+◌, ◌*◌, ◌^◌, ◌<◌, ◌≤◌, ◌+ℤ◌, ◌*ℤ◌, unsigned_abs, arith, refl, inl, inr, ap, sym}
use Rattle.std.proofs.Math.Nat.{mul-add}
use Rattle.std.proofs.lemmas.Bool.{cases_eq}
use Rattle.std.proofs.lemmas.Int.{ints, unsigned_abs-mul}
use Rattle.std.proofs.lemmas.Nat.{mul-le}
use Rattle.dirac_obmc.specs.Compensation.{signed_total}
use Rattle.dirac_obmc.specs.Weights.{sum_below}

-- a value times its weight
pub weighed_small : (w : ℕ) (v : ℤ) → w ≤ 64 → unsigned_abs v ≤ 2 ^ 15 → unsigned_abs (pos w *ℤ v) ≤ 2 ^ 21
weighed_small w v few small =
    omega (arith, unsigned_abs-mul (pos w) v, mul-le w (unsigned_abs v) 64 32768 few (omega arith))

-- terms that are within weights times b sum to within the weights' sum times b
pub abs_total : (f : ℕ → ℤ) (w : ℕ → ℕ) (b n : ℕ) → ((i : ℕ) → i < n → unsigned_abs (f i) ≤ b * w i) → unsigned_abs (signed_total f n) ≤ b * sum_below w n
abs_total f w b zero h = omega arith
abs_total f w b (suc n) h =
    let before : unsigned_abs (signed_total f n) ≤ b * sum_below w n = abs_total f w b n (λ i l. h i (omega arith)) in
    let here : unsigned_abs (f n) ≤ b * w n = h n (omega arith) in
    let both : b * (sum_below w n + w n) ≡ b * sum_below w n + b * w n = mul-add b (sum_below w n) (w n) in
    let parts : unsigned_abs (signed_total f n +ℤ f n) ≤ unsigned_abs (signed_total f n) + unsigned_abs (f n) = abs_sum (signed_total f n) (f n) in
    omega (arith, before, here, both, parts)
  where
    abs_sum : (x y : ℤ) → unsigned_abs (x +ℤ y) ≤ unsigned_abs x + unsigned_abs y
    abs_sum x y = omega (arith, ints)

-- a longer sum of numbers is no smaller
pub sum_grows : (w : ℕ → ℕ) (k n : ℕ) → k ≤ n → sum_below w k ≤ sum_below w n
sum_grows w k zero l = elim (cases_eq k 0) [
  | inl e ↦ omega (arith, ap (sum_below w) e)
  | inr more ↦ absurd (omega arith)
]
sum_grows w k (suc n) l = elim (cases_eq k (suc n)) [
  | inl e ↦ omega (arith, ap (sum_below w) e)
  | inr less ↦ omega (arith, sum_grows w k n (omega arith))
]

-- terms 0 at the front and at the end
pub total_nothing : (f : ℕ → ℤ) (n : ℕ) → ((i : ℕ) → i < n → f i ≡ pos 0) → signed_total f n ≡ pos 0
total_nothing f zero h = refl
total_nothing f (suc n) h =
    rw (total_nothing f n (λ i l. h i (omega arith)), h n (omega arith)) refl

pub total_stays : (f : ℕ → ℤ) (k n : ℕ) → k ≤ n → ((i : ℕ) → k ≤ i → i < n → f i ≡ pos 0) → signed_total f n ≡ signed_total f k
total_stays f k zero l h = elim (cases_eq k 0) [
  | inl e ↦ ap (signed_total f) (sym e)
  | inr more ↦ absurd (omega arith)
]
total_stays f k (suc n) l h = elim (cases_eq k (suc n)) [
  | inl e ↦ ap (signed_total f) (sym e)
  | inr less ↦
      rw (h n (omega arith) (omega arith), total_stays f k n (omega arith) (λ i a b. h i a (omega arith))) (add_zero (signed_total f k))
] where
  add_zero : (x : ℤ) → x +ℤ pos 0 ≡ x
  add_zero x = omega (arith, ints)
