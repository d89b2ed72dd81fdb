-- The places of a block along a direction, and how far a component may lead from them.
use Rattle.std.proofs.Common.{◌≡◌, ℕ, zero, suc, ℤ, pos, negsuc, ◌+◌, ◌-◌, ◌*◌, ◌/◌, ◌^◌, ◌<◌, ◌≤◌, ◌+ℤ◌, neg_ℤ, Bool, true, ◌&&◌, min, nat_le, nat_lt, arith, refl, ap, sym, ◌∙◌}
use Rattle.std.specs.Prelude.{int_le, ◌≤ℤ◌}
use Rattle.std.specs.Int.{int_div_euclid}
use Rattle.std.proofs.lemmas.Bool.{and_from, and_parts}
use Rattle.std.proofs.lemmas.Bool.Decides.{nat_tests}
use Rattle.std.proofs.lemmas.Int.{ints}
use Rattle.std.proofs.lemmas.Nat.{mul-le}
use Rattle.std.proofs.Math.Nat.{mul-add, mul_assoc, mul_comm}
use Rattle.dirac_inside.specs.Inside.{holds, is_inside, position}
use Rattle.dirac_inside.specs.Ranges.{ArePlaces}
use Rattle.dirac_inside.proofs.Positions.{IsBetween, inside_from, inside_tells}

pub held_tells : (block len separation size first end x : ℕ) → ArePlaces block len separation size first end → x < size → holds block len separation x ≡ true → (first ≤ x) × (x < end)
held_tells block len separation size first end x are l e =
    let parts = and_parts (nat_le (block * separation) (x + (len - separation) / 2)) (nat_lt (x + (len - separation) / 2) (block * separation + len)) e in
    (grind (arith, nat_tests, parts, are.first_is), grind (arith, nat_tests, parts, are.end_is))

pub held_from : (block len separation size first end x : ℕ) → ArePlaces block len separation size first end → first ≤ x → x < end → holds block len separation x ≡ true
held_from block len separation size first end x are l m =
    and_from (nat_le (block * separation) (x + (len - separation) / 2)) (nat_lt (x + (len - separation) / 2) (block * separation + len))
    (grind (arith, nat_tests, are.first_is)) (grind (arith, nat_tests, are.end_is))

-- a quotient at least, and at most
least_tells : (v : ℤ) (a ratio : ℕ) → 1 ≤ ratio → ratio ≤ 2 → neg_ℤ (pos a) ≤ℤ int_div_euclid v (pos ratio) → neg_ℤ (pos (a * ratio)) ≤ℤ v
least_tells v a zero some few l = absurd (omega arith)
least_tells (pos n) a (suc zero) some few l = omega (arith, ints, l)
least_tells (negsuc n) a (suc zero) some few l = omega (arith, ints, l)
least_tells (pos n) a (suc (suc zero)) some few l = omega (arith, ints, l)
least_tells (negsuc n) a (suc (suc zero)) some few l = omega (arith, ints, l)
least_tells v a (suc (suc (suc r))) some few l = absurd (omega arith)

least_from : (v : ℤ) (a ratio : ℕ) → 1 ≤ ratio → ratio ≤ 2 → neg_ℤ (pos (a * ratio)) ≤ℤ v → neg_ℤ (pos a) ≤ℤ int_div_euclid v (pos ratio)
least_from v a zero some few l = absurd (omega arith)
least_from (pos n) a (suc zero) some few l = omega (arith, ints, l)
least_from (negsuc n) a (suc zero) some few l = omega (arith, ints, l)
least_from (pos n) a (suc (suc zero)) some few l = omega (arith, ints, l)
least_from (negsuc n) a (suc (suc zero)) some few l = omega (arith, ints, l)
least_from v a (suc (suc (suc r))) some few l = absurd (omega arith)

most_tells : (v : ℤ) (a ratio : ℕ) → 1 ≤ ratio → ratio ≤ 2 → int_div_euclid v (pos ratio) ≤ℤ pos a → v ≤ℤ pos (a * ratio + (ratio - 1))
most_tells v a zero some few l = absurd (omega arith)
most_tells (pos n) a (suc zero) some few l = omega (arith, ints, l)
most_tells (negsuc n) a (suc zero) some few l = omega (arith, ints, l)
most_tells (pos n) a (suc (suc zero)) some few l = omega (arith, ints, l)
most_tells (negsuc n) a (suc (suc zero)) some few l = omega (arith, ints, l)
most_tells v a (suc (suc (suc r))) some few l = absurd (omega arith)

most_from : (v : ℤ) (a ratio : ℕ) → 1 ≤ ratio → ratio ≤ 2 → v ≤ℤ pos (a * ratio + (ratio - 1)) → int_div_euclid v (pos ratio) ≤ℤ pos a
most_from v a zero some few l = absurd (omega arith)
most_from (pos n) a (suc zero) some few l = omega (arith, ints, l)
most_from (negsuc n) a (suc zero) some few l = omega (arith, ints, l)
most_from (pos n) a (suc (suc zero)) some few l = omega (arith, ints, l)
most_from (negsuc n) a (suc (suc zero)) some few l = omega (arith, ints, l)
most_from v a (suc (suc (suc r))) some few l = absurd (omega arith)

-- a component lies in its span
pub record LiesIn (precision ratio size first end : ℕ) (v : ℤ) : Type 0 where
  pub least : neg_ℤ (pos (first * (2 ^ precision * ratio))) ≤ℤ v
  pub most : v ≤ℤ pos ((size - end) * (2 ^ precision * ratio) + (ratio - 1))

turned : (s n ratio : ℕ) → s * n * ratio ≡ n * (s * ratio)
turned s n ratio = ap (λ m. m * ratio) (mul_comm s n) ∙ mul_assoc n s ratio

-- parts of places that are one before the other
parts_apart : (s a b : ℕ) → a ≤ b → s * b ≡ s * a + s * (b - a)
parts_apart s a b l = let sum : b ≡ a + (b - a) = omega arith in ap (λ n. s * n) sum ∙ mul-add s a (b - a)

pub span_tells : (q ratio size first end : ℕ) (v : ℤ) → q ≤ 3 → 1 ≤ ratio → ratio ≤ 2 → first < end → end ≤ size
    → ((x : ℕ) → first ≤ x → x < end → is_inside q size (position q ratio x v) ≡ true) → LiesIn q ratio size first end v
span_tells q ratio size first end v fine some few not_empty fits inside =
    let at_first = inside_tells q size (position q ratio first v) (omega arith) fine (inside first (omega arith) not_empty) in
    let at_last = inside_tells q size (position q ratio (end - 1) v) (omega arith) fine (inside (end - 1) (omega arith) (omega arith)) in
    let last = parts_apart (2 ^ q) (end - 1) (size - 1) (omega arith) in
    let rest : size - 1 - (end - 1) ≡ size - end = omega arith in
    let left = ap (λ n. 2 ^ q * n) rest in
    let back = least_tells v (2 ^ q * first) ratio some few (omega (arith, ints, at_first.least)) in
    let on = most_tells v (2 ^ q * (size - end)) ratio some few (omega (arith, ints, at_last.most, last, left)) in
    record {
      least = omega (arith, ints, back, turned (2 ^ q) first ratio);
      most = omega (arith, ints, on, turned (2 ^ q) (size - end) ratio);
    }

pub span_from : (q ratio size first end : ℕ) (v : ℤ) → q ≤ 3 → 1 ≤ ratio → ratio ≤ 2 → end ≤ size → LiesIn q ratio size first end v
    → (x : ℕ) → first ≤ x → x < end → is_inside q size (position q ratio x v) ≡ true
span_from q ratio size first end v fine some few fits is x l m =
    let back = least_from v (2 ^ q * first) ratio some few (omega (arith, ints, is.least, turned (2 ^ q) first ratio)) in
    let on = most_from v (2 ^ q * (size - end)) ratio some few (omega (arith, ints, is.most, turned (2 ^ q) (size - end) ratio)) in
    let behind : 2 ^ q * first ≤ 2 ^ q * x = mul-le (2 ^ q) first (2 ^ q) x (omega arith) l in
    let sum = parts_apart (2 ^ q) x (size - 1) (omega arith) in
    let before : 2 ^ q * (size - end) ≤ 2 ^ q * (size - 1 - x) = mul-le (2 ^ q) (size - end) (2 ^ q) (size - 1 - x) (omega arith) (omega arith) in
    inside_from q size (position q ratio x v) (omega arith) fine (record {
      least = omega (arith, ints, back, behind);
      most = omega (arith, ints, on, sum, before);
    })
