use Rattle.std.proofs.Common.{◌≡◌, ℕ, pos, ◌<◌, ◌+ℤ◌, slice_index_or}
use Rattle.dirac_common.specs.Table.{clamped_at}
use Rattle.dirac_upconvert.proofs.whole_samples.WholeSamples.clamped_row.Given as goal

abbrev pub invariant-loop-k : goal.invariant-loop-k
invariant-loop-k l = (k : ℕ) → k < l.k → slice_index_or l.out k (pos 0) ≡ clamped_at l.self (l.x +ℤ pos k) l.y
