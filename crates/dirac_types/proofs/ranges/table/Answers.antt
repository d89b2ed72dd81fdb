use Rattle.std.proofs.Common.{◌≤◌}
use Rattle.std.proofs.lemmas.List.Elements.{All-same}
use Rattle.dirac_types.specs.declared.ranges.Ranged.{Ranged}
use Rattle.dirac_types.specs.Settings.{table}
use Rattle.dirac_types.proofs.Rows.{steps_at_least_1}
use Rattle.dirac_types.proofs.ranges.table.Goals as goal

pub returns-clause-steps_at_least_1 : goal.returns-clause-steps_at_least_1
returns-clause-steps_at_least_1 c =
    All-same (λ (r : Ranged). 1 ≤ r.step) c.rows.result (table c.args.s.now) c.rows.ensures (steps_at_least_1 c.args.s.now)
