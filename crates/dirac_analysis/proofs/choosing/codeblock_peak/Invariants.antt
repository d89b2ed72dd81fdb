use Rattle.std.proofs.Common.{◌<◌, ◌≤◌, ◌^◌, ℕ, unsigned_abs}
use Rattle.dirac_common.specs.Table.{table_at}
use Rattle.dirac_analysis.proofs.choosing.codeblock_peak.Given as goal

abbrev pub invariant-loop-y : goal.invariant-loop-y
invariant-loop-y l = record {
  below : l.largest < 2 ^ 38;
  bounds : (x k : ℕ) → l.left ≤ x → x < l.right → l.top ≤ k → k < l.y → unsigned_abs (table_at l.table x k) ≤ l.largest;
  least : (limit : ℕ) → ((x k : ℕ) → l.left ≤ x → x < l.right → l.top ≤ k → k < l.bottom → unsigned_abs (table_at l.table x k) ≤ limit) → l.largest ≤ limit;
}
