-- A position takes nothing outside exactly where it lies between the first sample and the last.
use Rattle.std.proofs.Common.{◌≡◌, ℕ, zero, suc, ℤ, pos, negsuc, ◌+◌, ◌-◌, ◌*◌, ◌^◌, ◌<◌, ◌≤◌, ◌+ℤ◌, Bool, true, ◌&&◌, arith, refl}
use Rattle.std.specs.Prelude.{int_le, ◌≤ℤ◌}
use Rattle.std.proofs.lemmas.Int.{ints}
use Rattle.dirac_upconvert.specs.SubSamples.{place_at}
use Rattle.dirac_inside.specs.Inside.{is_inside, last_taken}
use Rattle.dirac_inside.proofs.Below.{both_from, both_tells}

-- between the first sample and the last
pub record IsBetween (precision size : ℕ) (p : ℤ) : Type 0 where
  pub least : pos 0 ≤ℤ p
  pub most : p ≤ℤ pos (2 ^ precision * (size - 1))

pub inside_tells : (q size : ℕ) (p : ℤ) → 1 ≤ size → q ≤ 3 → is_inside q size p ≡ true → IsBetween q size p
inside_tells zero size p some fine e =
    let are = both_tells (pos 0) p p (pos (size - 1)) e in
    record { least = are.0; most = omega (arith, ints, are.1) }
inside_tells (suc zero) size (pos n) some fine e =
    let are = both_tells (pos 0) (place_at (pos n) 0) (last_taken 0 (pos n)) (pos (2 * size - 2)) e in
    record { least = omega (arith, ints); most = grind (arith, ints, are.1) }
inside_tells (suc zero) size (negsuc n) some fine e =
    let are = both_tells (pos 0) (place_at (negsuc n) 0) (last_taken 0 (negsuc n)) (pos (2 * size - 2)) e in
    absurd (omega (arith, ints, are.0))
inside_tells (suc (suc zero)) size (pos n) some fine e =
    let are = both_tells (pos 0) (place_at (pos n) 1) (last_taken 1 (pos n)) (pos (2 * size - 2)) e in
    record { least = omega (arith, ints); most = grind (arith, ints, are.1) }
inside_tells (suc (suc zero)) size (negsuc n) some fine e =
    let are = both_tells (pos 0) (place_at (negsuc n) 1) (last_taken 1 (negsuc n)) (pos (2 * size - 2)) e in
    absurd (omega (arith, ints, are.0))
inside_tells (suc (suc (suc zero))) size (pos n) some fine e =
    let are = both_tells (pos 0) (place_at (pos n) 2) (last_taken 2 (pos n)) (pos (2 * size - 2)) e in
    record { least = omega (arith, ints); most = grind (arith, ints, are.1) }
inside_tells (suc (suc (suc zero))) size (negsuc n) some fine e =
    let are = both_tells (pos 0) (place_at (negsuc n) 2) (last_taken 2 (negsuc n)) (pos (2 * size - 2)) e in
    absurd (omega (arith, ints, are.0))
inside_tells (suc (suc (suc (suc q)))) size p some fine e = absurd (omega arith)

pub inside_from : (q size : ℕ) (p : ℤ) → 1 ≤ size → q ≤ 3 → IsBetween q size p → is_inside q size p ≡ true
inside_from zero size p some fine is = both_from (pos 0) p p (pos (size - 1)) is.least (omega (arith, ints, is.most))
inside_from (suc zero) size (pos n) some fine is =
    both_from (pos 0) (place_at (pos n) 0) (last_taken 0 (pos n)) (pos (2 * size - 2)) (omega (arith, ints)) (grind (arith, ints, is.most))
inside_from (suc zero) size (negsuc n) some fine is = absurd (omega (arith, ints, is.least))
inside_from (suc (suc zero)) size (pos n) some fine is =
    both_from (pos 0) (place_at (pos n) 1) (last_taken 1 (pos n)) (pos (2 * size - 2)) (omega (arith, ints)) (grind (arith, ints, is.most))
inside_from (suc (suc zero)) size (negsuc n) some fine is = absurd (omega (arith, ints, is.least))
inside_from (suc (suc (suc zero))) size (pos n) some fine is =
    both_from (pos 0) (place_at (pos n) 2) (last_taken 2 (pos n)) (pos (2 * size - 2)) (omega (arith, ints)) (grind (arith, ints, is.most))
inside_from (suc (suc (suc zero))) size (negsuc n) some fine is = absurd (omega (arith, ints, is.least))
inside_from (suc (suc (suc (suc q)))) size p some fine is = absurd (omega arith)
