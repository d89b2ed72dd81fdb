use Rattle.std.proofs.Common.{◌≡◌, ◌<◌, ℕ, pos, slice_index_or}
use Rattle.dirac_common.specs.Samples.{clip}
use Rattle.dirac_synthesis.proofs.clip.clip_narrow_values.Given as goal

abbrev pub invariant-loop-i : goal.invariant-loop-i
invariant-loop-i l = (k : ℕ) → k < l.i → slice_index_or l.samples k (pos 0) ≡ clip (slice_index_or l.values k (pos 0))
