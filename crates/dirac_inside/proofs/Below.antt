-- What is said of all numbers below another, and tests of signed numbers.
use Rattle.std.proofs.Common.{◌≡◌, ℕ, zero, suc, ℤ, ◌<◌, Bool, true, false, ◌&&◌, arith, refl, ap, sym, inl, inr, ◌∙◌}
use Rattle.std.specs.Prelude.{int_le, ◌≤ℤ◌}
use Rattle.std.proofs.lemmas.Bool.{and_from, and_parts, cases_eq}
use Rattle.std.proofs.lemmas.Int.{ints}
use Rattle.dirac_inside.specs.Inside.{all_below}

pub all_tells : (is : ℕ → Bool) (n : ℕ) → all_below is n ≡ true → (k : ℕ) → k < n → is k ≡ true
all_tells is zero e k l = absurd (omega arith)
all_tells is (suc n) e k l =
    let parts = and_parts (all_below is n) (is n) e in
    elim (cases_eq k n) [
      | inl same ↦ ap is same ∙ parts.1
      | inr other ↦ all_tells is n parts.0 k (omega arith)
    ]

pub all_from : (is : ℕ → Bool) (n : ℕ) → ((k : ℕ) → k < n → is k ≡ true) → all_below is n ≡ true
all_from is zero h = refl
all_from is (suc n) h = and_from (all_below is n) (is n) (all_from is n (λ k l. h k (omega arith))) (h n (omega arith))

pub le_tells : (a b : ℤ) → int_le a b ≡ true → a ≤ℤ b
le_tells a b e = grind (arith, ints)

pub le_from : (a b : ℤ) → a ≤ℤ b → int_le a b ≡ true
le_from a b l = grind (arith, ints)

pub both_tells : (a b c d : ℤ) → (int_le a b && int_le c d) ≡ true → (a ≤ℤ b) × (c ≤ℤ d)
both_tells a b c d e =
    let parts = and_parts (int_le a b) (int_le c d) e in
    (le_tells a b parts.0, le_tells c d parts.1)

pub both_from : (a b c d : ℤ) → a ≤ℤ b → c ≤ℤ d → (int_le a b && int_le c d) ≡ true
both_from a b c d l m = and_from (int_le a b) (int_le c d) (le_from a b l) (le_from c d m)

-- tests that tell each other
pub same_test : (a b : Bool) → (a ≡ true → b ≡ true) → (b ≡ true → a ≡ true) → a ≡ b
same_test true b f g = sym (f refl)
same_test false true f g = g refl
same_test false false f g = refl
