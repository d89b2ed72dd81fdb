use Rattle.std.proofs.Common.{arith}
use Rattle.dirac_types.specs.declared.settings.Name.TheVariants as name
use Rattle.dirac_types.specs.Settings.{setting, table}
use Rattle.dirac_command_line.proofs.Ranges.{budget_in, budget_out}
use Rattle.dirac_command_line.proofs.LastRow.{all_accepted, last_refused, row_refused}
use Rattle.dirac_command_line.proofs.checks.check_rate.Goals as goal

pub returns-in-Ok-clause-exact : goal.returns-in-Ok-clause-exact
returns-in-Ok-clause-exact c = all_accepted (table c.args.settings.now) (setting name.Budget c.args.budget 14 4294967295 1) c.in-Ok.ensures.exact (budget_in c.args.budget c.if-budget-ge-LEAST_BUDGET.true (omega arith))

pub returns-in-Ok-2-clause-exact : goal.returns-in-Ok-2-clause-exact
returns-in-Ok-2-clause-exact c =
    rw c.from.ensures
    (last_refused (table c.args.settings.now) (setting name.Budget c.args.budget 14 4294967295 1) c.in-Ok-2.ensures.exact (budget_out c.args.budget c.if-budget-ge-LEAST_BUDGET.false))

pub returns-in-Err-clause-exact : goal.returns-in-Err-clause-exact
returns-in-Err-clause-exact c = row_refused (table c.args.settings.now) (setting name.Budget c.args.budget 14 4294967295 1) c.in-Err.bad c.in-Err.ensures.exact
