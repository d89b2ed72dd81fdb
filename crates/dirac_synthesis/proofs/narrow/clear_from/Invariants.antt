use Rattle.std.proofs.Common.{◌≡◌, ◌+◌, ◌<◌, ℕ, pos, slice_index_or}
use Rattle.dirac_synthesis.proofs.narrow.clear_from.Given as goal

abbrev pub invariant-loop-n : goal.invariant-loop-n
invariant-loop-n l = record {
  written : (k : ℕ) → k < l.n → slice_index_or l.line (l.from + k) (pos 0) ≡ pos 0;
  before : (x : ℕ) → x < l.from → slice_index_or l.line x (pos 0) ≡ slice_index_or l.fn.line x (pos 0);
}
