use Rattle.std.proofs.Common.{◌≡◌, ℕ, pos, ◌*◌, ◌^◌, ◌<◌, ◌+ℤ◌, slice_index_or}
use Rattle.dirac_upconvert.specs.SubSamples.{bilinear, rounded}
use Rattle.dirac_upconvert.proofs.rows.clamped_parts.Given as goal

abbrev pub invariant-loop-k : goal.invariant-loop-k
invariant-loop-k l =
    (k : ℕ) → k < l.k → slice_index_or l.out k (pos 0) ≡ rounded (2 * l.from.rests.bits) (bilinear l.table (2 ^ l.from.rests.bits) (l.from.across +ℤ pos (2 * k)) l.from.down l.from.rests.right l.from.rests.below)
