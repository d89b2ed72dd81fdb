use Rattle.std.proofs.Common.{◌≡◌, ℕ, pos, ◌+◌, ◌<◌, slice_index_or}
use Rattle.dirac_upconvert.proofs.rows.copy_widened.Given as goal

abbrev pub invariant-loop-k : goal.invariant-loop-k
invariant-loop-k l = (k : ℕ) → k < l.k → slice_index_or l.out k (pos 0) ≡ slice_index_or l.row (l.at + k) (pos 0)
