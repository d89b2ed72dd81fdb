-- Positions to which vectors lead, and the samples there.
use Rattle.std.proofs.Common.{◌≡◌, ℕ, ℤ, pos, ◌+◌, ◌*◌, ◌^◌, ◌+ℤ◌, List, replicate, arith, ap, ap₂, ◌∙◌}
use Rattle.std.specs.List.{All}
use Rattle.std.proofs.lemmas.Int.{ints}
use Rattle.std.proofs.lemmas.List.{get_or-replicate, length-replicate}
use Rattle.std.proofs.Math.Nat.{mul-add}
use Rattle.dirac_common.specs.declared.formats.Vector.{Vector}
use Rattle.dirac_upconvert.specs.HalfSamples.{IsSample}
use Rattle.dirac_upconvert.specs.SubSamples.{Up, sub_sample}
use Rattle.dirac_upconvert.proofs.Halves.{all_samples}
use Rattle.dirac_obmc.specs.Compensation.{Compensation, across_ratio, down_ratio, moved_sample, position}

-- places further on lead as far further on
position_more : (precision ratio x k : ℕ) (v : ℤ) → position precision ratio x v +ℤ pos (2 ^ precision * k) ≡ position precision ratio (x + k) v
position_more precision ratio x k v = omega (arith, ints, mul-add (2 ^ precision) x k)

-- the sample that lies so many columns and rows further on
pub sample_moved : (m : Compensation) (up : Up) (v : Vector) (x y i j : ℕ) (across down : ℤ) → across ≡ position m.prediction.precision (across_ratio m) x v.x → down ≡ position m.prediction.precision (down_ratio m) y v.y
    → sub_sample up m.prediction.precision (across +ℤ pos (2 ^ m.prediction.precision * i)) (down +ℤ pos (2 ^ m.prediction.precision * j)) ≡ moved_sample m up v (x + i) (y + j)
unfolding moved_sample
sample_moved m up v x y i j across down ea ed =
    let q = m.prediction.precision in
    ap₂ (λ (a b : ℤ). sub_sample up q a b)
    (ap (λ a. a +ℤ pos (2 ^ q * i)) ea ∙ position_more q (across_ratio m) x i v.x)
    (ap (λ a. a +ℤ pos (2 ^ q * j)) ed ∙ position_more q (down_ratio m) y j v.y)

-- zeros are samples
pub zeros_are : (n : ℕ) (xs : List ℤ) → xs ≡ replicate n (pos 0) → All IsSample xs
zeros_are n xs e =
    rw e
    (all_samples (replicate n (pos 0))
    (λ k l. rw (get_or-replicate n k (pos 0) (pos 0) (omega (arith, l, length-replicate n (pos 0)))) (record { least = omega (arith, ints); most = omega (arith, ints) })))
