use Rattle.std.proofs.Common.{◌≡◌, ◌<◌, ◌≤◌, ℕ, pos, slice_index_or}
use Rattle.dirac_quant.specs.Quantiser.{reduced}
use Rattle.dirac_analysis.proofs.coded.reduce_part.Given as goal

abbrev pub invariant-loop-x : goal.invariant-loop-x
invariant-loop-x l = record {
  written : (k : ℕ) → l.start ≤ k → k < l.x → slice_index_or l.line k (pos 0) ≡ reduced (slice_index_or l.values k (pos 0)) l.index;
  before : (k : ℕ) → k < l.start → slice_index_or l.line k (pos 0) ≡ slice_index_or l.fn.line k (pos 0);
}
