use Rattle.std.proofs.Common.{◌≡◌, ◌*◌, ◌≤◌}
use Rattle.dirac_costs.specs.Windows.{row_from, values_apart, values_from}
use Rattle.dirac_costs.proofs.differences.clamped_differences.Given as goal

abbrev pub invariant-loop-k : goal.invariant-loop-k
invariant-loop-k l = (l.sum ≡ values_apart (row_from l.plane l.x l.y) (values_from l.values 0) l.k) × (l.sum ≤ 65535 * l.k)
