use Rattle.std.proofs.Common.{◌+◌, arith, ◌∙◌}
use Rattle.std.specs.Int.{w32}
use Rattle.std.proofs.lemmas.Int.{to_z-of_z}
use Rattle.dirac_costs.proofs.Sums.{total_same}
use Rattle.dirac_costs.proofs.means.row_total.Goals as goal

pub returns-then-x-count-clause-value : goal.returns-then-x-count-clause-value
returns-then-x-count-clause-value c =
    to_z-of_z w32 _ (record { sfits = c.inner_total.type_inv }) ∙ c.inner_total.ensures.value
    ∙ total_same _ _ c.args.count (λ k l. c.nearest_row.ensures.value (c.args.x + k) (omega arith))
