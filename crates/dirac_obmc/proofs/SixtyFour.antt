-- The weights of all blocks at a sample sum to 64.
use Rattle.std.proofs.Common.{◌≡◌, ℕ, zero, suc, ◌+◌, ◌*◌, ◌<◌, arith, refl, ap, ◌∙◌}
use Rattle.std.proofs.Math.Nat.{mul-add, mul_comm}
use Rattle.dirac_obmc.specs.Compensation.{Compensation, IsCompensation, blocks_across, blocks_down, weight_of, x_length, x_separation, y_length, y_separation}
use Rattle.dirac_obmc.specs.Weights.{share, sum_below}
use Rattle.dirac_obmc.proofs.Eight.{eight}
use Rattle.dirac_obmc.proofs.Overlaps.{overlap_across, overlap_down}

-- a sum of numbers times k
pub sum_scaled : (f : ℕ → ℕ) (k n : ℕ) → sum_below (λ i. f i * k) n ≡ sum_below f n * k
sum_scaled f k zero = omega arith
sum_scaled f k (suc n) =
    let step : k * (sum_below f n + f n) ≡ k * sum_below f n + k * f n = mul-add k (sum_below f n) (f n) in
    omega (arith, sum_scaled f k n, step, mul_comm k (sum_below f n + f n), mul_comm k (sum_below f n), mul_comm k (f n))

pub sum_same : (f g : ℕ → ℕ) (n : ℕ) → ((i : ℕ) → f i ≡ g i) → sum_below f n ≡ sum_below g n
sum_same f g zero e = refl
sum_same f g (suc n) e = omega (arith, sum_same f g n e, e n)

-- the weights of one row of blocks at a sample sum to 8 times its own weight
pub row_weight : (m : Compensation) → IsCompensation m → (x y j : ℕ) → x < m.width
    → sum_below (weight_of m x y j) (blocks_across m) ≡ 8 * share j (blocks_down m) (y_length m) (y_separation m) y
row_weight m h x y j inside =
    sum_scaled (λ i. share i (blocks_across m) (x_length m) (x_separation m) x) (share j (blocks_down m) (y_length m) (y_separation m) y) (blocks_across m)
    ∙ ap (λ s. s * share j (blocks_down m) (y_length m) (y_separation m) y)
    (eight (blocks_across m) (x_length m) (x_separation m) x (overlap_across m h) (omega (arith, inside, h.covers_across)))

pub sixty_four : (m : Compensation) → IsCompensation m → (x y : ℕ) → x < m.width → y < m.height → sum_below (λ j. sum_below (weight_of m x y j) (blocks_across m)) (blocks_down m) ≡ 64
sixty_four m h x y right below =
    let down : sum_below (λ j. share j (blocks_down m) (y_length m) (y_separation m) y) (blocks_down m) ≡ 8 =
    eight (blocks_down m) (y_length m) (y_separation m) y (overlap_down m h) (omega (arith, below, h.covers_down)) in
    sum_same (λ j. sum_below (weight_of m x y j) (blocks_across m)) (λ j. share j (blocks_down m) (y_length m) (y_separation m) y * 8) (blocks_down m)
    (λ j. row_weight m h x y j right ∙ mul_comm 8 (share j (blocks_down m) (y_length m) (y_separation m) y))
    ∙ sum_scaled (λ j. share j (blocks_down m) (y_length m) (y_separation m) y) 8 (blocks_down m)
    ∙ ap (λ s. s * 8) down
