use Rattle.std.proofs.Common.{◌≡◌, ◌+◌, ◌<◌, ℕ, pos, true, slice_index_or}
use Rattle.dirac_lift.proofs.zeros.are_32_zeros.Given as goal

abbrev pub invariant-loop-j : goal.invariant-loop-j
invariant-loop-j l = l.all ≡ true → (k : ℕ) → k < l.j → slice_index_or l.values (l.at + k) (pos 0) ≡ pos 0
