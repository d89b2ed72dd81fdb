use Rattle.std.proofs.Common.{◌≡◌, ◌<◌, ℕ, pos, slice_index_or}
use Rattle.dirac_quant.specs.Quantiser.{reduced}
use Rattle.dirac_analysis.proofs.coded.reduce_narrow_values.Given as goal

abbrev pub invariant-loop-x : goal.invariant-loop-x
invariant-loop-x l = (k : ℕ) → k < l.x → slice_index_or l.coded k (pos 0) ≡ reduced (slice_index_or l.values k (pos 0)) l.index
