use Rattle.std.proofs.Common.{◌≡◌, ℕ, pos, ◌+◌, ◌<◌, ◌+ℤ◌, slice_index_or}
use Rattle.dirac_obmc.specs.Adding.{weighed_at}
use Rattle.dirac_obmc.proofs.sums.all_grown.Given as goal

abbrev pub invariant-loop-k : goal.invariant-loop-k
invariant-loop-k l = (k : ℕ) → k < l.k → slice_index_or l.out k (pos 0) ≡ slice_index_or l.sums (l.place + k) (pos 0) +ℤ weighed_at l.weighed (l.at + k)
