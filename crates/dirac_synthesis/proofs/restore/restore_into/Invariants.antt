use Rattle.std.proofs.Common.{◌≡◌, ◌≢◌, ◌+◌, ◌*◌, ◌%◌, ◌<◌, ℕ, pos, slice_index_or}
use Rattle.dirac_quant.specs.Quantiser.{restored}
use Rattle.dirac_synthesis.proofs.restore.restore_into.Given as goal

abbrev pub invariant-loop-n : goal.invariant-loop-n
invariant-loop-n l = record {
  written : (k : ℕ) → k < l.n → slice_index_or l.line (k * l.step + l.first) (pos 0) ≡ restored (slice_index_or l.coded k (pos 0)) l.index l.kind;
  others : (x : ℕ) → x % l.step ≢ l.first → slice_index_or l.line x (pos 0) ≡ slice_index_or l.fn.line x (pos 0);
}
