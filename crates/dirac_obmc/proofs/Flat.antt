-- What DC blocks of one value predict.
use Rattle.std.proofs.Common.{◌≡◌, ℕ, ℤ, pos, negsuc, zero, suc, ◌+◌, ◌<◌, ◌+ℤ◌, ◌*ℤ◌, arith, refl, ap, sym, ◌∙◌}
use Rattle.std.specs.Int.{int_shr}
use Rattle.std.proofs.Math.IntN.{zero-*ℤ}
use Rattle.std.proofs.Math.Nat.{add-mul}
use Rattle.std.proofs.lemmas.Int.{ints}
use Rattle.dirac_obmc.specs.Compensation.{Compensation, IsFlat, IsCompensation, blended, blocks_across, blocks_down, predicted_at, predicts, term, signed_total, weight_of}
use Rattle.dirac_obmc.specs.Weights.{sum_below}
use Rattle.dirac_obmc.proofs.SixtyFour.{sixty_four}

-- weights that are added
weigh_more : (a b : ℕ) (v : ℤ) → pos a *ℤ v +ℤ pos b *ℤ v ≡ pos (a + b) *ℤ v
weigh_more a b (pos n) = omega (arith, ints, add-mul a b n)
weigh_more a b (negsuc n) = omega (arith, ints, add-mul a b (suc n))

-- a sum of weights times one value
pub total_weighed : (f : ℕ → ℤ) (w : ℕ → ℕ) (v : ℤ) (n : ℕ) → ((i : ℕ) → i < n → f i ≡ pos (w i) *ℤ v) → signed_total f n ≡ pos (sum_below w n) *ℤ v
total_weighed f w v zero h = sym (zero-*ℤ v)
total_weighed f w v (suc n) h =
    ap (λ z. z +ℤ f n) (total_weighed f w v n (λ i l. h i (omega arith))) ∙ ap (λ z. pos (sum_below w n) *ℤ v +ℤ z) (h n (omega arith))
    ∙ weigh_more (sum_below w n) (w n) v

-- what a DC block adds
flat_term : (m : Compensation) (v : ℤ) (x y j i : ℕ) → IsFlat m v → i < blocks_across m → j < blocks_down m → term m x y j i ≡ pos (weight_of m x y j i) *ℤ v
unfolding term predicts
flat_term m v x y j i h l k =
    let b = h i j l k in
    rw (b.0, b.1, b.2) refl

divided : (z v : ℤ) → z ≡ pos 64 *ℤ v → int_shr (z +ℤ pos 32) 6 ≡ v
divided z v e = ap (λ a. int_shr (a +ℤ pos 32) 6) e ∙ whole (pos 64 *ℤ v +ℤ pos 32) v refl where
  whole : (a b : ℤ) → a ≡ pos 64 *ℤ b +ℤ pos 32 → int_shr a 6 ≡ b
  whole (pos n) b s = omega (arith, ints)
  whole (negsuc n) b s = omega (arith, ints)

pub flat : (m : Compensation) (v : ℤ) → IsCompensation m → IsFlat m v → (x y : ℕ) → x < m.width → y < m.height → predicted_at m x y ≡ v
flat m v h f x y right below =
    divided (blended m x y) v
    (total_weighed (λ j. signed_total (term m x y j) (blocks_across m)) (λ j. sum_below (weight_of m x y j) (blocks_across m)) v (blocks_down m)
    (λ j k. total_weighed (term m x y j) (weight_of m x y j) v (blocks_across m) (λ i l. flat_term m v x y j i f l k))
    ∙ ap (λ w. pos w *ℤ v) (sixty_four m h x y right below))
