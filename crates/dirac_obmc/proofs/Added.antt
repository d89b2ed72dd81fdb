-- What a block adds at a place.
use Rattle.std.proofs.Common.{◌≡◌, ℕ, ℤ, pos, ◌*◌, ◌*ℤ◌, ap, ◌∙◌}
use Rattle.std.proofs.Math.IntN.{zero-*ℤ}
use Rattle.std.proofs.Math.Nat.{mul-zero}
use Rattle.dirac_block_table.specs.Tables.{block_at}
use Rattle.dirac_obmc.specs.Compensation.{Compensation, blocks_across, blocks_down, predicts, term, signed_total, weight_of, x_length, x_separation, y_length, y_separation}
use Rattle.dirac_obmc.specs.Weights.{share}
use Rattle.dirac_obmc.proofs.Totals.{total_nothing}

-- a block of no weight adds nothing
pub nothing_down : (m : Compensation) (x y j i : ℕ) → share j (blocks_down m) (y_length m) (y_separation m) y ≡ 0 → term m x y j i ≡ pos 0
unfolding term
nothing_down m x y j i e =
    ap (λ w. pos w *ℤ predicts m (block_at m.blocks i j) x y)
    (ap (λ s. share i (blocks_across m) (x_length m) (x_separation m) x * s) e ∙ mul-zero (share i (blocks_across m) (x_length m) (x_separation m) x))
    ∙ zero-*ℤ (predicts m (block_at m.blocks i j) x y)

-- nor does a row of blocks that doesn't hold the place
pub row_nothing : (m : Compensation) (x y j : ℕ) → share j (blocks_down m) (y_length m) (y_separation m) y ≡ 0 → signed_total (term m x y j) (blocks_across m) ≡ pos 0
row_nothing m x y j e = total_nothing (term m x y j) (blocks_across m) (λ i l. nothing_down m x y j i e)

pub term_is : (m : Compensation) (x y j i w d : ℕ) (v : ℤ) → w ≡ share i (blocks_across m) (x_length m) (x_separation m) x → d ≡ share j (blocks_down m) (y_length m) (y_separation m) y
    → v ≡ predicts m (block_at m.blocks i j) x y → pos (w * d) *ℤ v ≡ term m x y j i
unfolding term
term_is m x y j i w d v ew ed ev =
    ap (λ a. pos (a * d) *ℤ v) ew ∙ ap (λ b. pos (share i (blocks_across m) (x_length m) (x_separation m) x * b) *ℤ v) ed
    ∙ ap (λ z. pos (weight_of m x y j i) *ℤ z) ev
