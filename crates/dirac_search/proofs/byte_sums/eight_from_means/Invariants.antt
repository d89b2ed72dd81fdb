use Rattle.std.proofs.Common.{◌≡◌, ◌*◌, ◌≤◌}
use Rattle.dirac_costs.specs.Sums.{sum_below}
use Rattle.dirac_search.specs.InBytes.{apart_from_mean}
use Rattle.dirac_search.proofs.byte_sums.eight_from_means.Given as goal

abbrev pub invariant-loop-k : goal.invariant-loop-k
invariant-loop-k l = (l.sum ≡ sum_below (apart_from_mean l.a l.first l.b l.corners) l.k) × (l.sum ≤ 255 * l.k)
