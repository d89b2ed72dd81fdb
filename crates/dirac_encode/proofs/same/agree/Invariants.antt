use Rattle.std.proofs.Common.{◌≡◌, ◌<◌, ℕ, pos, true, slice_index_or}
use Rattle.dirac_encode.proofs.same.agree.Given as goal

abbrev pub invariant-loop-i : goal.invariant-loop-i
invariant-loop-i l = l.same ≡ true → (k : ℕ) → k < l.i → slice_index_or l.ours k (pos 0) ≡ slice_index_or l.theirs k (pos 0)
