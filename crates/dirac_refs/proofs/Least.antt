-- The least place of a waiting list.
use Rattle.std.proofs.Common.{◌≡◌, ◌<◌, ◌≤◌, ◌-◌, ◌⊎◌, List, length, ℕ, zero, suc, Bool, true, false, if◌then◌else◌, refl, arith, inl, inr}
use Rattle.std.specs.Prelude.{int_lt, ◌≤ℤ◌, ◌<ℤ◌}
use Rattle.std.proofs.lemmas.Int.{ints}
use Rattle.dirac_refs.specs.declared.waiting.Waiting.{Waiting}
use Rattle.dirac_refs.specs.Delivery.{key_at, least_among, least_place, LeastLeavesFirst}

-- what is known of the least place among those at 0 to n
pub record IsLeastTo (ws : List Waiting) (n place : ℕ) : Type 0 where
  pub inside : place ≤ n
  pub least : (k : ℕ) → k ≤ n → key_at ws place ≤ℤ key_at ws k
  pub earliest : (k : ℕ) → k < place → key_at ws place <ℤ key_at ws k

same_key : (ws : List Waiting) (place k : ℕ) → k ≡ place → key_at ws place ≤ℤ key_at ws k
same_key ws place k e = rw e (omega (arith, ints))

at_most : (n k : ℕ) → k ≤ suc n → (k ≤ n) ⊎ (k ≡ suc n)
at_most n k h = grind arith

-- one place more, by whether its key is less than the least one so far
least_more : (ws : List Waiting) (n place : ℕ) (b : Bool) → int_lt (key_at ws (suc n)) (key_at ws place) ≡ b → IsLeastTo ws n place → IsLeastTo ws (suc n) (if b then suc n else place)
least_more ws n place true e w = record {
  inside = omega arith;
  least = λ k h. elim (at_most n k h) [ inl h' ↦ let low : key_at ws place ≤ℤ key_at ws k = w.least k h' in grind (arith, ints) | inr same ↦ same_key ws (suc n) k same ];
  earliest = λ k h. let low : key_at ws place ≤ℤ key_at ws k = w.least k (omega arith) in grind (arith, ints);
}
least_more ws n place false e w = record {
  inside = omega (arith, w.inside);
  least = λ k h. elim (at_most n k h) [ inl h' ↦ w.least k h' | inr same ↦ rw same (grind (arith, ints)) ];
  earliest = w.earliest;
}

pub is_least : (ws : List Waiting) (n : ℕ) → IsLeastTo ws n (least_among ws n)
unfolding least_among
is_least ws zero = record {
  inside = omega arith;
  least = λ k h. same_key ws 0 k (omega arith);
  earliest = λ k h. absurd (omega arith);
}
is_least ws (suc n) = least_more ws n (least_among ws n) (int_lt (key_at ws (suc n)) (key_at ws (least_among ws n))) refl (is_least ws n)

-- the law: it leaves first
pub leaves_first : LeastLeavesFirst
leaves_first ws some =
    let w : IsLeastTo ws (length ws - 1) (least_place ws) = is_least ws (length ws - 1) in
    record {
      waits = omega (arith, w.inside);
      least = λ k h. w.least k (omega arith);
      earliest = w.earliest;
    }
