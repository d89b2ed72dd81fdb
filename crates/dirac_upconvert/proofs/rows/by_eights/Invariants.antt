use Rattle.std.proofs.Common.{◌≡◌, ℕ, pos, ◌+◌, ◌*◌, ◌<◌, slice_index_or}
use Rattle.dirac_upconvert.specs.SubSamples.{between_sides}
use Rattle.dirac_upconvert.proofs.rows.by_eights.Given as goal

abbrev pub invariant-loop-i : goal.invariant-loop-i
invariant-loop-i l =
    (k : ℕ) → k < 8 * l.i → slice_index_or l.out k (pos 0) ≡ between_sides l.rests.bits l.rests.right l.rests.below l.above l.under (l.sides.left + k) (l.sides.next + k)
