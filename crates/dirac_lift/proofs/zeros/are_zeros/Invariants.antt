use Rattle.std.proofs.Common.{◌≡◌, ◌*◌, ◌<◌, ℕ, pos, slice_index_or}
use Rattle.dirac_lift.proofs.zeros.are_zeros.Given as goal

abbrev pub invariant-whole : goal.invariant-whole
invariant-whole l = (k : ℕ) → k < l.i * 32 → slice_index_or l.values k (pos 0) ≡ pos 0

abbrev pub invariant-left : goal.invariant-left
invariant-left l = (k : ℕ) → k < l.n → slice_index_or l.values k (pos 0) ≡ pos 0
