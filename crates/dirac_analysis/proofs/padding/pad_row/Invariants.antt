use Rattle.std.proofs.Common.{◌≡◌, ℕ, ◌-◌, ◌<◌, length, min, slice_index_or, pos}
use Rattle.dirac_analysis.proofs.padding.pad_row.Given as goal

abbrev pub invariant-loop-x : goal.invariant-loop-x
invariant-loop-x l = (k : ℕ) → k < l.x → slice_index_or l.line k (pos 0) ≡ slice_index_or l.samples (min k (length l.samples - 1)) (pos 0)
