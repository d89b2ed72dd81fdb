use Rattle.std.proofs.Common.{◌≡◌}
use Rattle.dirac_upconvert.specs.SubSamples.{IsWithin}
use Rattle.dirac_costs.specs.Sums.{total_below}
use Rattle.dirac_costs.specs.Windows.{values_from}
use Rattle.dirac_costs.proofs.means.inner_total.Given as goal

abbrev pub invariant-loop-k : goal.invariant-loop-k
invariant-loop-k l =
    (l.total ≡ total_below (values_from l.row l.start) l.k) × IsWithin l.k l.total
