use Rattle.std.proofs.Common.{◌+◌, arith, ap, ◌∙◌, length, ℤ}
use Rattle.std.specs.Prelude.{unsigned_abs, ◌-ℤ◌}
use Rattle.dirac_costs.specs.Windows.{values_from}
use Rattle.dirac_costs.proofs.Sums.{sum_same}
use Rattle.dirac_costs.proofs.differences.row_differences.Goals as goal

pub returns-then-x-values-clause-value : goal.returns-then-x-values-clause-value
returns-then-x-values-clause-value c =
    c.values_differences.ensures.value
    ∙ sum_same _ _ (length c.args.values.now) (λ k l. ap (λ (z : ℤ). unsigned_abs (z -ℤ values_from c.args.values.now 0 k)) (c.nearest_row.ensures.value (c.args.x + k) (omega arith)))
