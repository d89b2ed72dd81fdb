-- What is predicted from samples alone is a sample.
use Rattle.std.proofs.Common.{◌≡◌, ℕ, ℤ, pos, negsuc, zero, suc, ◌+◌, ◌*◌, ◌/◌, ◌%◌, ◌<◌, ◌≤◌, ◌+ℤ◌, ◌*ℤ◌, Option, Some, None, arith, refl, inl, inr, sym, subst, ◌∙◌}
use Rattle.std.specs.Prelude.{◌≤ℤ◌}
use Rattle.std.specs.Int.{int_shr}
use Rattle.std.specs.List.{All}
use Rattle.std.specs.Option.{ForSome}
use Rattle.std.proofs.lemmas.Bool.{cases_Bool}
use Rattle.std.proofs.lemmas.Int.{ints}
use Rattle.std.proofs.Math.Nat.{mul_comm}
use Rattle.std.proofs.lemmas.List.FromFn.{get_or-map-range_with_len, length-map-range_with_len}
use Rattle.std.proofs.lemmas.Nat.{div_below, mod_below, mul-le}
use Rattle.dirac_common.specs.Table.{filled}
use Rattle.dirac_common.specs.declared.formats.Vector.{Vector}
use Rattle.dirac_parameters.specs.declared.prediction.Prediction.{Prediction}
use Rattle.dirac_block_table.specs.Tables.{block_at}
use Rattle.dirac_block_table.specs.declared.block.Block.{Block}
use Rattle.dirac_upconvert.specs.HalfSamples.{IsSample}
use Rattle.dirac_upconvert.specs.SubSamples.{IsWithin, Up}
use Rattle.dirac_upconvert.proofs.SampleRows.{sub_sample_is}
use Rattle.dirac_obmc.specs.Compensation.{Compensation, IsCompensation, across_ratio, blended, blocks_across, blocks_down, component_dc, down_ratio, from_one, from_two, moved_sample, position, predicted_at, predicts, second_sample, term, signed_total, weight_of}
use Rattle.dirac_obmc.specs.OfSamples.{HasDefaultWeights, IsOfSamples, PlanesOfSamples, SamplesPredictSamples}
use Rattle.dirac_obmc.specs.Weights.{sum_below}
use Rattle.dirac_obmc.proofs.Choices.{by_first, by_second, by_two, by_value}
use Rattle.dirac_obmc.proofs.SixtyFour.{sixty_four}

-- one sample with both weights is itself
one_is : (v : ℤ) → int_shr (v *ℤ pos 2 +ℤ pos 1) 1 ≡ v
one_is v = whole (v *ℤ pos 2 +ℤ pos 1) v refl where
  whole : (a b : ℤ) → a ≡ b *ℤ pos 2 +ℤ pos 1 → int_shr a 1 ≡ b
  whole (pos n) b s = omega (arith, ints)
  whole (negsuc n) b s = omega (arith, ints)

pub from_one_is : (p : Prediction) (v : ℤ) → HasDefaultWeights p → from_one p v ≡ v
from_one_is p v h = rw (h.weight_bits, h.weight1, h.weight2) (one_is v)

half_sample : (z : ℤ) → negsuc 254 ≤ℤ z → z ≤ℤ pos 255 → IsSample (int_shr z 1)
half_sample (pos n) low high = record { least = omega (arith, ints); most = omega (arith, ints) }
half_sample (negsuc n) low high = record { least = omega (arith, ints); most = omega (arith, ints) }

times_one : (v : ℤ) → v *ℤ pos 1 ≡ v
times_one (pos n) = omega (arith, ints)
times_one (negsuc n) = omega (arith, ints)

-- and two samples are their mean
pub from_two_mean : (p : Prediction) (v w : ℤ) → HasDefaultWeights p → from_two p v w ≡ int_shr ((v +ℤ w) +ℤ pos 1) 1
from_two_mean p v w h = rw (h.weight_bits, h.weight1, h.weight2, times_one v, times_one w) refl

from_two_is : (p : Prediction) (v w : ℤ) → HasDefaultWeights p → IsSample v → IsSample w → IsSample (from_two p v w)
from_two_is p v w h a b =
    rw (h.weight_bits, h.weight1, h.weight2)
    (half_sample ((v *ℤ pos 1 +ℤ w *ℤ pos 1) +ℤ pos 1)
    (omega (arith, ints, times_one v, times_one w, a.least, b.least)) (omega (arith, ints, times_one v, times_one w, a.most, b.most)))

moved_is : (m : Compensation) → IsCompensation m → (up : Up) → All IsSample up.table.values → (v : Vector) (x y : ℕ) → IsSample (moved_sample m up v x y)
unfolding moved_sample
moved_is m h up all v x y = sub_sample_is up m.prediction.precision (position m.prediction.precision (across_ratio m) x v.x) (position m.prediction.precision (down_ratio m) y v.y) h.precision all

second_is : (m : Compensation) → IsCompensation m → (o : Option Up) → ForSome o (λ u. All IsSample u.table.values) → (v : Vector) (x y : ℕ) → IsSample (second_sample m o v x y)
second_is m h None all v x y = record { least = omega (arith, ints); most = omega (arith, ints) }
second_is m h (Some up) all v x y = moved_is m h up (all up refl) v x y

-- what a block predicts
value_is : (m : Compensation) → IsCompensation m → IsOfSamples m → (b : Block) → IsSample (component_dc m.component b) → (x y : ℕ) → IsSample (predicts m b x y)
value_is m h o b dc x y =
    let first = moved_is m h m.up1 o.first b.v1 x y in
    let second = second_is m h m.up2 o.second b.v2 x y in
    elim (cases_Bool b.ref1) [
      | inl one ↦ elim (cases_Bool b.ref2) [
        | inl two ↦ subst (λ (z : ℤ). IsSample z) (by_two m b x y _ _ one two refl refl) (from_two_is m.prediction _ _ o.weights first second)
        | inr none ↦ subst (λ (z : ℤ). IsSample z) (sym (from_one_is m.prediction _ o.weights) ∙ by_first m b x y _ one none refl) first
      ]
      | inr none ↦ elim (cases_Bool b.ref2) [
        | inl two ↦ subst (λ (z : ℤ). IsSample z) (sym (from_one_is m.prediction _ o.weights) ∙ by_second m b x y _ none two refl) second
        | inr neither ↦ subst (λ (z : ℤ). IsSample z) (by_value m b x y none neither) dc
      ]
    ]

-- a sample times a weight, and sums of them
weighed : (w : ℕ) (v : ℤ) → IsSample v → IsWithin w (pos w *ℤ v)
weighed w (pos n) h =
    let few : w * n ≤ w * 127 = mul-le w n w 127 (omega arith) (omega (arith, ints, h.most)) in
    record { least = omega (arith, ints, few); most = omega (arith, ints, few) }
weighed w (negsuc n) h =
    let few : w * suc n ≤ w * 128 = mul-le w (suc n) w 128 (omega arith) (omega (arith, ints, h.least)) in
    record { least = omega (arith, ints, few); most = omega (arith, ints, few) }

total_within : (f : ℕ → ℤ) (w : ℕ → ℕ) (n : ℕ) → ((i : ℕ) → i < n → IsWithin (w i) (f i)) → IsWithin (sum_below w n) (signed_total f n)
total_within f w zero h = record { least = omega (arith, ints); most = omega (arith, ints) }
total_within f w (suc n) h =
    both (sum_below w n) (w n) (signed_total f n) (f n) (total_within f w n (λ i l. h i (omega arith))) (h n (omega arith))
  where
    both : (a b : ℕ) (s r : ℤ) → IsWithin a s → IsWithin b r → IsWithin (a + b) (s +ℤ r)
    both a b s r p q = record { least = omega (arith, ints, p.least, q.least); most = omega (arith, ints, p.most, q.most) }

term_is : (m : Compensation) → IsCompensation m → IsOfSamples m → (x y j i : ℕ) → j < blocks_down m → i < blocks_across m → IsWithin (weight_of m x y j i) (term m x y j i)
unfolding term
term_is m h o x y j i k l = weighed (weight_of m x y j i) (predicts m (block_at m.blocks i j) x y) (value_is m h o (block_at m.blocks i j) (o.dc i j l k) x y)

-- a sum of 64 samples divided by 64
divided : (z : ℤ) → IsWithin 64 z → IsSample (int_shr (z +ℤ pos 32) 6)
divided z h = whole (z +ℤ pos 32) (omega (arith, ints, h.least)) (omega (arith, ints, h.most)) where
  whole : (a : ℤ) → negsuc 8191 ≤ℤ a → a ≤ℤ pos 8191 → IsSample (int_shr a 6)
  whole (pos n) low high = record { least = omega (arith, ints); most = omega (arith, ints) }
  whole (negsuc n) low high = record { least = omega (arith, ints); most = omega (arith, ints) }

pub samples_predicted : SamplesPredictSamples
samples_predicted m h o x y right below =
    divided (blended m x y)
    (subst (λ (n : ℕ). IsWithin n (blended m x y)) (sixty_four m h x y right below)
    (total_within (λ j. signed_total (term m x y j) (blocks_across m)) (λ j. sum_below (weight_of m x y j) (blocks_across m)) (blocks_down m)
    (λ j k. total_within (term m x y j) (weight_of m x y j) (blocks_across m) (λ i l. term_is m h o x y j i k l))))

-- what holds at each place of a table that is told
told_all : (P : ℤ → Type 0) (w h : ℕ) (f : ℕ → ℕ → ℤ) → 0 < w → ((x y : ℕ) → x < w → y < h → P (f x y)) → All P (filled w h f)
unfolding filled
told_all P w h f some each k d l =
    let inside : k < w * h = omega (arith, l, length-map-range_with_len (λ p. f (p % w) (p / w)) 0 (w * h)) in
    rw (get_or-map-range_with_len (λ p. f (p % w) (p / w)) 0 (w * h) k k d inside (omega arith)) (each (k % w) (k / w) (mod_below k w some) (div_below k w h some (omega (arith, inside, mul_comm w h))))

pub planes_predicted : PlanesOfSamples
planes_predicted m h o = told_all IsSample m.width m.height (predicted_at m) (omega (arith, h.some_across)) (samples_predicted m h o)
