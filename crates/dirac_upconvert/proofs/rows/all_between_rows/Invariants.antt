use Rattle.std.proofs.Common.{◌≡◌, ℕ, pos, ◌+◌, ◌<◌, slice_index_or}
use Rattle.dirac_upconvert.specs.SubSamples.{between_sides}
use Rattle.dirac_upconvert.proofs.rows.all_between_rows.Given as goal

abbrev pub invariant-loop-k : goal.invariant-loop-k
invariant-loop-k l = (k : ℕ) → k < l.k → slice_index_or l.out k (pos 0) ≡ between_sides l.rests.bits l.rests.right l.rests.below l.above l.under (l.sides.left + k) (l.sides.next + k)
