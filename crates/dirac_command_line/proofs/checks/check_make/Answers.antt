use Rattle.dirac_types.specs.declared.settings.Name.TheVariants as name
use Rattle.dirac_types.specs.Settings.{setting, table}
use Rattle.dirac_command_line.proofs.LastRow.{all_accepted, last_refused, row_refused}
use Rattle.dirac_command_line.proofs.Ranges.{count_in, count_out}
use Rattle.dirac_command_line.proofs.checks.check_make.Goals as goal

pub returns-in-Ok-clause-exact : goal.returns-in-Ok-clause-exact
returns-in-Ok-clause-exact c = all_accepted (table c.args.settings.now) (setting name.Count c.args.count 0 1000 1) c.in-Ok.ensures.exact (count_in c.args.count c.if-count-le-MOST_PICTURES.true)

pub returns-in-Ok-2-clause-exact : goal.returns-in-Ok-2-clause-exact
returns-in-Ok-2-clause-exact c = last_refused (table c.args.settings.now) (setting name.Count c.args.count 0 1000 1) c.in-Ok-2.ensures.exact (count_out c.args.count c.if-count-le-MOST_PICTURES.false)

pub returns-in-Err-clause-exact : goal.returns-in-Err-clause-exact
returns-in-Err-clause-exact c = row_refused (table c.args.settings.now) (setting name.Count c.args.count 0 1000 1) c.in-Err.bad c.in-Err.ensures.exact
