use Rattle.std.proofs.Common.{◌≡◌, ◌<◌, ◌≤◌, ℕ, pos, slice_index_or}
use Rattle.dirac_quant.specs.Quantiser.{scaled}
use Rattle.dirac_synthesis.proofs.codeblocks.restore_part.Given as goal

abbrev pub invariant-loop-x : goal.invariant-loop-x
invariant-loop-x l = record {
  written : (k : ℕ) → l.start ≤ k → k < l.x → slice_index_or l.line k (pos 0) ≡ scaled (slice_index_or l.coded k (pos 0)) l.scale.factor l.scale.offset;
  before : (k : ℕ) → k < l.start → slice_index_or l.line k (pos 0) ≡ slice_index_or l.fn.line k (pos 0);
}
