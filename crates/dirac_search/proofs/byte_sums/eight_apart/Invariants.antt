use Rattle.std.proofs.Common.{◌≡◌, ◌*◌, ◌≤◌}
use Rattle.dirac_costs.specs.Sums.{sum_below}
use Rattle.dirac_search.specs.Rows.{apart_at}
use Rattle.dirac_search.proofs.byte_sums.eight_apart.Given as goal

abbrev pub invariant-loop-k : goal.invariant-loop-k
invariant-loop-k l = (l.sum ≡ sum_below (apart_at l.a l.first l.b l.second) l.k) × (l.sum ≤ 255 * l.k)
