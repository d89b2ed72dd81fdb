-- How large the values of blocks are, and their weighted sums.
use Rattle.std.proofs.Common.{ℕ, ℤ, pos, suc, ◌+◌, ◌*◌, ◌^◌, ◌<◌, ◌≤◌, ◌+ℤ◌, ◌*ℤ◌, unsigned_abs, Bool, true, false, cond, Option, Some, None, arith, refl}
use Rattle.std.specs.List.{All}
use Rattle.std.specs.Option.{ForSome}
use Rattle.std.proofs.Math.Nat.{mul_comm}
use Rattle.std.proofs.lemmas.Int.{ints, unsigned_abs-mul}
use Rattle.std.proofs.lemmas.Nat.{mul-le, mul-add-lt}
use Rattle.dirac_common.specs.declared.formats.Vector.{Vector}
use Rattle.dirac_block_table.specs.Tables.{IsBlock, block_at}
use Rattle.dirac_block_table.specs.declared.block.Block.{Block}
use Rattle.dirac_upconvert.specs.HalfSamples.{IsSample}
use Rattle.dirac_upconvert.specs.SubSamples.{Up}
use Rattle.dirac_upconvert.proofs.SampleRows.{sub_sample_is}
use Rattle.dirac_common.specs.declared.formats.Component.{Component}
use Rattle.dirac_common.specs.declared.formats.Component.TheVariants as component
use Rattle.dirac_obmc.specs.Compensation.{Compensation, IsCompensation, across_ratio, blocks_across, blocks_down, component_dc, down_ratio, from_one, from_two, moved_sample, position, predicts, second_sample, term, signed_total, weight_of, y_length, y_separation}
use Rattle.dirac_obmc.specs.Directions.{IsSoundCompensation}
use Rattle.dirac_obmc.specs.Weights.{share, sum_below}
use Rattle.dirac_obmc.proofs.Rounding.{product_small, rounded_small}
use Rattle.dirac_obmc.proofs.SixtyFour.{row_weight, sixty_four}
use Rattle.dirac_obmc.proofs.Totals.{abs_total, sum_grows}

-- samples to which vectors lead
moved_is : (m : Compensation) (up : Up) (v : Vector) (x y : ℕ) → IsCompensation m → All IsSample up.table.values → IsSample (moved_sample m up v x y)
unfolding moved_sample
moved_is m up v x y h s =
    sub_sample_is up m.prediction.precision (position m.prediction.precision (across_ratio m) x v.x) (position m.prediction.precision (down_ratio m) y v.y) h.precision s

second_is : (m : Compensation) (o : Option Up) (v : Vector) (x y : ℕ) → IsCompensation m → ForSome o (λ u. All IsSample u.table.values) → IsSample (second_sample m o v x y)
second_is m None v x y h s = record { least = omega (arith, ints); most = omega (arith, ints) }
second_is m (Some up) v x y h s = moved_is m up v x y h (s up refl)

-- weighted samples
sum_within : (a b : ℤ) (n k l : ℕ) → unsigned_abs a ≤ n → unsigned_abs b ≤ k → n + k ≤ l → unsigned_abs (a +ℤ b) ≤ l
sum_within a b n k l p q r = omega (arith, ints)

one_small : (m : Compensation) (v : ℤ) → IsCompensation m → IsSample v → unsigned_abs (from_one m.prediction v) ≤ 2 ^ 15
one_small m v h s =
    let weight : unsigned_abs (m.prediction.weight1 +ℤ m.prediction.weight2) ≤ 510 = sum_within m.prediction.weight1 m.prediction.weight2 255 255 510 h.weight1 h.weight2 (omega arith) in
    rounded_small (v *ℤ (m.prediction.weight1 +ℤ m.prediction.weight2)) m.prediction.weight_bits h.some_bits h.most_bits
    (omega (arith, weight, product_small v (m.prediction.weight1 +ℤ m.prediction.weight2) s))

two_small : (m : Compensation) (v w : ℤ) → IsCompensation m → IsSample v → IsSample w → unsigned_abs (from_two m.prediction v w) ≤ 2 ^ 15
two_small m v w h s t =
    rounded_small (v *ℤ m.prediction.weight1 +ℤ w *ℤ m.prediction.weight2) m.prediction.weight_bits h.some_bits h.most_bits
    (sum_within (v *ℤ m.prediction.weight1) (w *ℤ m.prediction.weight2) 32640 32640 65280
    (omega (arith, h.weight1, product_small v m.prediction.weight1 s)) (omega (arith, h.weight2, product_small w m.prediction.weight2 t)) (omega arith))

dc_small : (p : Component) (refs : ℕ) (b : Block) → IsBlock refs b → unsigned_abs (component_dc p b) ≤ 2 ^ 15
dc_small component.Y refs b h = omega (arith, ints, h.dc_y.least, h.dc_y.most)
dc_small component.U refs b h = omega (arith, ints, h.dc_u.least, h.dc_u.most)
dc_small component.V refs b h = omega (arith, ints, h.dc_v.least, h.dc_v.most)

choice_small : (r s : Bool) (a b c d : ℤ) (n : ℕ) → unsigned_abs a ≤ n → unsigned_abs b ≤ n → unsigned_abs c ≤ n → unsigned_abs d ≤ n → unsigned_abs (cond r (cond s a b) (cond s c d)) ≤ n
choice_small true true a b c d n p q r s = p
choice_small true false a b c d n p q r s = q
choice_small false true a b c d n p q r s = r
choice_small false false a b c d n p q r s = s

-- what a block predicts
pub predicts_small : (m : Compensation) (refs : ℕ) (b : Block) (x y : ℕ) → IsCompensation m → IsSoundCompensation m → IsBlock refs b → unsigned_abs (predicts m b x y) ≤ 2 ^ 15
unfolding predicts
predicts_small m refs b x y h s k =
    let first = moved_is m m.up1 b.v1 x y h s.first in
    let second = second_is m m.up2 b.v2 x y h s.second in
    choice_small b.ref1 b.ref2 _ _ _ _ (2 ^ 15) (two_small m _ _ h first second) (one_small m _ h first) (one_small m _ h second) (dc_small m.component refs b k)

-- the block of the table at this place
pub block_is : (m : Compensation) (i j : ℕ) → IsSoundCompensation m → i < blocks_across m → j < blocks_down m → IsBlock m.blocks.refs (block_at m.blocks i j)
block_is m i j s l k =
    s.blocks.blocks (j * (4 * m.blocks.across) + i) _
    (omega (arith, s.blocks.blocks_len, mul-add-lt j (4 * m.blocks.across) i (4 * m.blocks.down) k l, mul_comm (4 * m.blocks.across) (4 * m.blocks.down)))

-- what a block adds
term_small : (m : Compensation) (x y j i : ℕ) → IsCompensation m → IsSoundCompensation m → i < blocks_across m → j < blocks_down m → unsigned_abs (term m x y j i) ≤ 2 ^ 15 * weight_of m x y j i
unfolding term
term_small m x y j i h s l k =
    let value = predicts_small m m.blocks.refs (block_at m.blocks i j) x y h s (block_is m i j s l k) in
    omega (
      arith,
      unsigned_abs-mul (pos (weight_of m x y j i)) (predicts m (block_at m.blocks i j) x y),
      mul-le (weight_of m x y j i) (unsigned_abs (predicts m (block_at m.blocks i j) x y)) (weight_of m x y j i) (2 ^ 15) (omega arith) value,
      mul_comm (weight_of m x y j i) (2 ^ 15),
    )

-- a block's share of a place is at most 8
share_small : (m : Compensation) (y j : ℕ) → IsCompensation m → y < m.height → j < blocks_down m → 8 * share j (blocks_down m) (y_length m) (y_separation m) y ≤ 64
share_small m y j h inside k =
    let all = sixty_four m h 0 y (omega (arith, h.some_across)) inside in
    let row = row_weight m h 0 y j (omega (arith, h.some_across)) in
    let rows = sum_grows (λ i. sum_below (weight_of m 0 y i) (blocks_across m)) (suc j) (blocks_down m) (omega arith) in
    omega (arith, all, row, rows)

-- the sum of the first blocks of a row of blocks
pub row_small : (m : Compensation) (x y j n : ℕ) → IsCompensation m → IsSoundCompensation m → x < m.width → y < m.height → j < blocks_down m → n ≤ blocks_across m → unsigned_abs (signed_total (term m x y j) n) ≤ 2 ^ 21
row_small m x y j n h s right below k few =
    let sum = abs_total (term m x y j) (weight_of m x y j) (2 ^ 15) n (λ i l. term_small m x y j i h s (omega arith) k) in
    let grows = sum_grows (weight_of m x y j) n (blocks_across m) few in
    omega (arith, sum, grows, row_weight m h x y j right, share_small m y j h below k)

-- the sum of the first rows of blocks
pub rows_small : (m : Compensation) (x y n : ℕ) → IsCompensation m → IsSoundCompensation m → x < m.width → y < m.height → n ≤ blocks_down m → unsigned_abs (signed_total (λ j. signed_total (term m x y j) (blocks_across m)) n) ≤ 2 ^ 21
rows_small m x y n h s right below few =
    let sum = abs_total (λ j. signed_total (term m x y j) (blocks_across m)) (λ j. sum_below (weight_of m x y j) (blocks_across m)) (2 ^ 15) n
    (λ j k. abs_total (term m x y j) (weight_of m x y j) (2 ^ 15) (blocks_across m) (λ i l. term_small m x y j i h s l (omega arith))) in
    let grows = sum_grows (λ j. sum_below (weight_of m x y j) (blocks_across m)) n (blocks_down m) few in
    omega (arith, sum, grows, sixty_four m h x y right below)
