use Rattle.std.proofs.Common.{◌≡◌, ◌*◌, ◌≤◌}
use Rattle.dirac_costs.specs.Windows.{values_apart, values_from}
use Rattle.dirac_costs.proofs.differences.values_differences.Given as goal

abbrev pub invariant-loop-k : goal.invariant-loop-k
invariant-loop-k l = (l.sum ≡ values_apart (values_from l.a l.first) (values_from l.b l.second) l.k) × (l.sum ≤ 65535 * l.k)
