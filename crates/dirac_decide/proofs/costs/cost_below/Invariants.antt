use Rattle.std.proofs.Common.{◌≡◌, ◌+◌, ◌*◌, ◌≤◌, length}
use Rattle.dirac_costs.specs.Sums.{sum_below}
use Rattle.dirac_costs.specs.Windows.{apart, sample_at}
use Rattle.dirac_decide.specs.Predictors.{predictor_samples}
use Rattle.dirac_decide.proofs.costs.cost_below.Given as goal

abbrev pub invariant-loop-b : goal.invariant-loop-b
invariant-loop-b l = record {
  len : length l.row ≡ l.window.columns;
  at_most : l.cost ≤ l.bits + 4194240 * l.b;
  cost : l.cost ≡ l.bits + sum_below (λ b. sum_below (λ a. apart (sample_at l.source) (predictor_samples l.precision l.predictor) (l.window.x + a) (l.window.y + b)) l.window.columns) l.b;
}
