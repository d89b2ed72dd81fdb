use Rattle.std.proofs.Common.{◌≡◌, ℕ, pos, ◌<◌, ◌+ℤ◌, slice_index_or}
use Rattle.std.specs.Int.{int_shr}
use Rattle.dirac_obmc.proofs.values.means.Given as goal

abbrev pub invariant-loop-k : goal.invariant-loop-k
invariant-loop-k l =
    (k : ℕ) → k < l.k → slice_index_or l.out k (pos 0) ≡ int_shr ((slice_index_or l.first k (pos 0) +ℤ slice_index_or l.second k (pos 0)) +ℤ pos 1) 1
