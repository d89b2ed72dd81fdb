use Rattle.std.proofs.Common.{◌≡◌, ◌+◌, ◌<◌, ℕ, pos, slice_index_or}
use Rattle.dirac_quant.specs.Quantiser.{scaled}
use Rattle.dirac_synthesis.proofs.narrow.restore_from.Given as goal

abbrev pub invariant-loop-n : goal.invariant-loop-n
invariant-loop-n l = record {
  written : (k : ℕ) → k < l.n → slice_index_or l.line (l.from + k) (pos 0) ≡ scaled (slice_index_or l.coded k (pos 0)) l.scale.factor l.scale.offset;
  before : (x : ℕ) → x < l.from → slice_index_or l.line x (pos 0) ≡ slice_index_or l.fn.line x (pos 0);
}
