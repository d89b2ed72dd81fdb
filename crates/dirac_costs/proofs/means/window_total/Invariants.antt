use Rattle.std.proofs.Common.{◌≡◌, ◌+◌, ◌*◌}
use Rattle.dirac_upconvert.specs.SubSamples.{IsWithin}
use Rattle.dirac_costs.specs.Sums.{total_below}
use Rattle.dirac_costs.specs.Windows.{sample_at}
use Rattle.dirac_costs.proofs.means.window_total.Given as goal

abbrev pub invariant-loop-b : goal.invariant-loop-b
invariant-loop-b l =
    (l.total ≡ total_below (λ b. total_below (λ a. sample_at l.plane (l.window.x + a) (l.window.y + b)) l.window.columns) l.b)
    × IsWithin (l.window.columns * l.b) l.total
