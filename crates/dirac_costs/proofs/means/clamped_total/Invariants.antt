use Rattle.std.proofs.Common.{◌≡◌}
use Rattle.dirac_upconvert.specs.SubSamples.{IsWithin}
use Rattle.dirac_costs.specs.Sums.{total_below}
use Rattle.dirac_costs.specs.Windows.{row_from}
use Rattle.dirac_costs.proofs.means.clamped_total.Given as goal

abbrev pub invariant-loop-k : goal.invariant-loop-k
invariant-loop-k l =
    (l.total ≡ total_below (row_from l.plane l.x l.y) l.k) × IsWithin l.k l.total
