use Rattle.std.proofs.Common.{◌≡◌, ◌≤◌, ◌*◌, get_or}
use Rattle.dirac_costs.specs.Sums.{sum_below}
use Rattle.dirac_search.proofs.eight_columns.sum_of_eight.Given as goal

abbrev pub invariant-loop-k : goal.invariant-loop-k
invariant-loop-k l = record {
  value : l.sum ≡ sum_below (λ k. get_or l.lanes k 0) l.k;
  small : l.sum ≤ 262140 * l.k;
}
