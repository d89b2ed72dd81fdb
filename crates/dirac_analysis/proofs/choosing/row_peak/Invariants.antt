use Rattle.std.proofs.Common.{◌<◌, ◌≤◌, ◌^◌, ℕ, pos, unsigned_abs, slice_index_or}
use Rattle.dirac_analysis.proofs.choosing.row_peak.Given as goal

abbrev pub invariant-loop-x : goal.invariant-loop-x
invariant-loop-x l = record {
  above : l.peak ≤ l.largest;
  below : l.largest < 2 ^ 38;
  bounds : (k : ℕ) → l.left ≤ k → k < l.x → unsigned_abs (slice_index_or l.row k (pos 0)) ≤ l.largest;
  least : (limit : ℕ) → l.peak ≤ limit → ((k : ℕ) → l.left ≤ k → k < l.right → unsigned_abs (slice_index_or l.row k (pos 0)) ≤ limit) → l.largest ≤ limit;
}
