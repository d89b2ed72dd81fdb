-- The fewest bits of a vector with motion, and what follows for the first of least cost.
use Rattle.std.proofs.Common.{◌≡◌, ◌⊎◌, ℕ, zero, suc, ℤ, pos, negsuc, ◌+◌, ◌-◌, ◌*◌, ◌/◌, ◌%◌, ◌==◌, ◌≤◌, unsigned_abs, Bool, true, false, List, [], ◌∷◌, length, length-append, arith, refl, inl, inr, sym, subst}
use Rattle.std.proofs.lemmas.Bool.{le-ltb}
use Rattle.dirac_common.specs.Numbers.{digits_of, digits_within, followed, sint, uint}
use Rattle.dirac_common.specs.declared.formats.Vector.{Vector}
use Rattle.dirac_costs.specs.Least.{first_least}
use Rattle.dirac_costs.specs.declared.window.Window.{Window}
use Rattle.dirac_costs.proofs.Spelt.{sint_of_none}
use Rattle.dirac_search.specs.declared.stage.Stage.{Stage}
use Rattle.dirac_search.specs.Candidates.{no_motion, vector}
use Rattle.dirac_search.specs.Costs.{window_cost}
use Rattle.dirac_search.specs.Given.{Searched}

some_digit : (most n : ℕ) → 2 ≤ n → 1 ≤ length (digits_within (suc most) n)
unfolding digits_within
some_digit most n l = rw (le-ltb n 2 l) (omega (arith, length-append (digits_within most (n / 2)) ((n % 2 == 1) ∷ [])))

followed_count : (bs : List Bool) → length (followed bs) ≡ 2 * length bs
followed_count [] = refl
followed_count (b ∷ bs) = omega (arith, followed_count bs)

uint_bits : (n : ℕ) → 1 ≤ n → 3 ≤ length (uint n)
unfolding digits_of
uint_bits n l =
    omega (arith, length-append (followed (digits_of n)) (true ∷ []), followed_count (digits_of n), some_digit 37 (n + 1) (omega arith))

-- a number that isn't 0 is spelt with at least four bits
four_bits : (v : ℤ) → 1 ≤ unsigned_abs v → 4 ≤ length (sint v)
four_bits (pos zero) some = absurd (omega arith)
four_bits (pos (suc n)) some = omega (arith, length-append (uint (suc n)) (false ∷ []), uint_bits (suc n) (omega arith))
four_bits (negsuc n) some = omega (arith, length-append (uint (suc n)) (true ∷ []), uint_bits (suc n) (omega arith))

one_bit : (v : ℤ) → 1 ≤ length (sint v)
one_bit (pos zero) = omega (arith, sint_of_none (pos zero) refl)
one_bit (pos (suc n)) = omega (arith, four_bits (pos (suc n)) (omega arith))
one_bit (negsuc n) = omega (arith, four_bits (negsuc n) (omega arith))

-- a vector is that of no motion, or is spelt with at least five bits
five_bits : (x y : ℤ) → (vector x y ≡ no_motion) ⊎ (5 ≤ length (sint x) + length (sint y))
five_bits (pos zero) (pos zero) = inl refl
five_bits (pos zero) (pos (suc n)) = inr (omega (arith, one_bit (pos zero), four_bits (pos (suc n)) (omega arith)))
five_bits (pos zero) (negsuc n) = inr (omega (arith, one_bit (pos zero), four_bits (negsuc n) (omega arith)))
five_bits (pos (suc m)) y = inr (omega (arith, four_bits (pos (suc m)) (omega arith), one_bit y))
five_bits (negsuc m) y = inr (omega (arith, four_bits (negsuc m) (omega arith), one_bit y))

bits_price : (bias bits : ℕ) → 5 ≤ bits → 5 * bias ≤ bias * bits
bits_price bias bits l =
    let parts : 5 + (bits - 5) ≡ bits = omega (arith, l) in
    subst (λ (n : ℕ). 5 * bias ≤ bias * n) parts (whole bias (bits - 5))
  where
    whole : (b m : ℕ) → 5 * b ≤ b * (5 + m)
    whole b m = omega arith

no_dearer : (g : Searched) (bias : ℕ) (st : Stage) (w : Window) (least : ℕ) → least ≡ window_cost g bias st w no_motion → least ≤ 5 * bias
    → (v : Vector) → window_cost g bias st w no_motion ≤ window_cost g bias st w v
unfolding window_cost
no_dearer g bias st w least e l v = elim (five_bits v.x v.y) [
  | inl same ↦ subst (λ (u : Vector). window_cost g bias st w no_motion ≤ window_cost g bias st w u) (turn same) (omega arith)
  | inr more ↦ omega (arith, e, l, bits_price bias (length (sint v.x) + length (sint v.y)) more)
] where
  turn : vector v.x v.y ≡ no_motion → no_motion ≡ v
  turn same = sym same

first_of_all : (cost : Vector → ℕ) (list : List Vector) → ((v : Vector) → cost no_motion ≤ cost v) → first_least cost no_motion list ≡ no_motion
first_of_all cost [] h = refl
first_of_all cost (w ∷ ws) h = rw (le-ltb (cost w) (cost no_motion) (h w)) (first_of_all cost ws h)

-- where the vector of no motion costs no more than the fewest bits of another, it is taken
pub still_taken : (g : Searched) (bias : ℕ) (st : Stage) (w : Window) (least : ℕ) (list : List Vector) → least ≡ window_cost g bias st w no_motion → least ≤ 5 * bias
    → no_motion ≡ first_least (window_cost g bias st w) no_motion list
still_taken g bias st w least list e l = sym (first_of_all (window_cost g bias st w) list (no_dearer g bias st w least e l))
