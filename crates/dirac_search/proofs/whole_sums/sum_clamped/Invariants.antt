use Rattle.std.proofs.Common.{◌≡◌, ◌≤◌, ◌*◌, pos}
use Rattle.dirac_search.specs.Rows.{row_apart}
use Rattle.dirac_search.proofs.whole_sums.sum_clamped.Given as goal

abbrev pub invariant-loop-k : goal.invariant-loop-k
invariant-loop-k l = record {
  value : l.sum ≡ row_apart l.source l.reference (pos l.x) (pos l.y) l.across l.down l.k;
  small : l.sum ≤ 65535 * l.k;
}
