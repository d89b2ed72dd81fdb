-- Tables of predictions.
use Rattle.std.proofs.Common.{◌≡◌, ℕ, ℤ, pos, negsuc, ◌+◌, ◌-◌, ◌*◌, ◌/◌, ◌%◌, ◌^◌, ◌<◌, ◌≤◌, ◌+ℤ◌, unsigned_abs, List, length, get_or, drop, replicate, arith, ap, sym, ◌∙◌}
use Rattle.std.specs.Prelude.{◌≤ℤ◌}
use Rattle.std.specs.Int.{int_shr}
use Rattle.std.proofs.Math.Nat.{mul_comm}
use Rattle.std.specs.List.{All}
use Rattle.std.proofs.lemmas.Int.{ints}
use Rattle.std.proofs.lemmas.List.{length-replicate, take_at}
use Rattle.std.proofs.lemmas.List.FromFn.{fill_by_all, get_or-map-range_with_len, length-map-range_with_len}
use Rattle.std.proofs.lemmas.Nat.{mod_below, div_below}
use Rattle.dirac_common.specs.Table.{Table, filled, table_of, with_values}
use Rattle.dirac_obmc.specs.Compensation.{Compensation, IsCompensation, blended, blocks_down, predicted_at, predicted_rows}
use Rattle.dirac_obmc.specs.Directions.{IsSoundCompensation}
use Rattle.dirac_obmc.proofs.Bounds.{rows_small}

-- a sum of values times weights of 64 in all, divided by 64
divided_small : (z : ℤ) → unsigned_abs z ≤ 2 ^ 21 → unsigned_abs (int_shr (z +ℤ pos 32) 6) ≤ 2 ^ 15
divided_small z l = shifted (z +ℤ pos 32) (most z l) (least z l) where
  shifted : (y : ℤ) → unsigned_abs y ≤ 2 ^ 21 + 32 → (pos 0 ≤ℤ (y +ℤ pos (2 ^ 21))) → unsigned_abs (int_shr y 6) ≤ 2 ^ 15
  shifted (pos n) p q = omega (arith, ints)
  shifted (negsuc n) p q = omega (arith, ints)

  most : (y : ℤ) → unsigned_abs y ≤ 2 ^ 21 → unsigned_abs (y +ℤ pos 32) ≤ 2 ^ 21 + 32
  most y p = omega (arith, ints)

  least : (y : ℤ) → unsigned_abs y ≤ 2 ^ 21 → pos 0 ≤ℤ ((y +ℤ pos 32) +ℤ pos (2 ^ 21))
  least y p = omega (arith, ints)

predicted_small : (m : Compensation) (x y : ℕ) → IsCompensation m → IsSoundCompensation m → x < m.width → y < m.height → unsigned_abs (predicted_at m x y) ≤ 2 ^ 15
predicted_small m x y h s right below = divided_small (blended m x y) (rows_small m x y (blocks_down m) h s right below (omega arith))

-- a table whose values are told by column and row
filled_small : (f : ℕ → ℕ → ℤ) (w h b : ℕ) → 0 < w → ((x y : ℕ) → x < w → y < h → unsigned_abs (f x y) ≤ b) → All (λ v. unsigned_abs v ≤ b) (filled w h f)
unfolding filled
filled_small f w h b some small k d inside =
    let l : k < w * h = omega (arith, inside, length-map-range_with_len (λ p. f (p % w) (p / w)) 0 (w * h)) in
    rw (get_or-map-range_with_len (λ p. f (p % w) (p / w)) 0 (w * h) k k d l (omega arith))
    (small (k % w) (k / w) (mod_below k w some) (div_below k w h some (omega (arith, l, mul_comm w h))))

pub rows_are_small : (m : Compensation) (t : Table) (first end : ℕ) → IsCompensation m → IsSoundCompensation m → end ≤ m.height → t ≡ predicted_rows m first end → All (λ v. unsigned_abs v ≤ 2 ^ 15) t.values
rows_are_small m t first end h s inside e =
    rw e (filled_small (λ x y. predicted_at m x (first + y)) m.width (end - first) (2 ^ 15) (omega (arith, h.some_across))
    (λ x y l k. predicted_small m x (first + y) h s l (omega arith)))

-- rows that are written as one list
pub lines_are : (f : ℕ → ℕ → ℤ) (w h : ℕ) (t : Table) (ws : List ℤ) → t ≡ record { width = w; height = h; values = replicate (w * h) (pos 0) } → length ws ≡ w * h
    → ((p : ℕ) → p < w * h → get_or ws p (pos 0) ≡ f (p % w) (p / w)) → with_values t ws ≡ table_of w h f
unfolding filled
lines_are f w h t ws e len each =
    let whole : length ws ≡ length t.values = len ∙ sym (ap (λ (u : Table). length u.values) e ∙ length-replicate (w * h) (pos 0)) in
    let written : (with_values t ws).values ≡ ws = take_at ws (drop (length ws) t.values) (length t.values) whole in
    let values : ws ≡ filled w h f = fill_by_all (λ p. f (p % w) (p / w)) ws (w * h) (pos 0) len each in
    ap (λ (vs : List ℤ). record t { values = vs }) (written ∙ values) ∙ ap (λ (u : Table). record u { values = filled w h f }) e
