use Rattle.std.proofs.Common.{◌≡◌, ℕ, pos, ◌+◌, ◌*◌, ◌<◌, slice_index_or}
use Rattle.dirac_upconvert.proofs.rows.copy_by_eights.Given as goal

abbrev pub invariant-loop-i : goal.invariant-loop-i
invariant-loop-i l = (k : ℕ) → k < 8 * l.i → slice_index_or l.out k (pos 0) ≡ slice_index_or l.row (l.at + k) (pos 0)
