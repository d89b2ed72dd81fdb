use Rattle.std.proofs.Common.{◌≡◌, ◌<◌, ℕ, pos, slice_index_or}
use Rattle.dirac_synthesis.proofs.narrow.copy_to_front.Given as goal

abbrev pub invariant-loop-n : goal.invariant-loop-n
invariant-loop-n l = (k : ℕ) → k < l.n → slice_index_or l.line k (pos 0) ≡ slice_index_or l.values k (pos 0)
