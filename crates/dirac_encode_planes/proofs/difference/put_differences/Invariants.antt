use Rattle.std.proofs.Common.{◌≡◌, ◌<◌, ◌-ℤ◌, ℕ, pos, slice_index_or}
use Rattle.dirac_encode_planes.proofs.difference.put_differences.Given as goal

abbrev pub invariant-loop-i : goal.invariant-loop-i
invariant-loop-i l =
    (k : ℕ) → k < l.i → slice_index_or l.left k (pos 0) ≡ slice_index_or l.samples k (pos 0) -ℤ slice_index_or l.predicted k (pos 0)
