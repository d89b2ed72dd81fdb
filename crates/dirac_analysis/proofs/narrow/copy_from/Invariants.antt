use Rattle.std.proofs.Common.{◌≡◌, ◌+◌, ◌<◌, ℕ, pos, slice_index_or}
use Rattle.dirac_analysis.proofs.narrow.copy_from.Given as goal

abbrev pub invariant-loop-x : goal.invariant-loop-x
invariant-loop-x l = (k : ℕ) → k < l.x → slice_index_or l.line k (pos 0) ≡ slice_index_or l.row (l.from + k) (pos 0)
