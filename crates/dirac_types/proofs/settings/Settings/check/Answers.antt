use Rattle.std.proofs.Common.{sym, ap, ◌∙◌}
use Rattle.dirac_types.specs.Settings.{first_bad, table}
use Rattle.dirac_types.proofs.InRange.{none_bad, some_bad}
use Rattle.dirac_types.proofs.settings.Settings.check.Goals as goal

pub returns-in-None-clause-accepted : goal.returns-in-None-clause-accepted
returns-in-None-clause-accepted c =
    none_bad (table c.args.self.now) (ap first_bad (sym c.table-rows.ensures.value) ∙ sym c.first_bad.ensures ∙ c.in-None.is)

pub returns-in-Some-clause-refused : goal.returns-in-Some-clause-refused
returns-in-Some-clause-refused c =
    some_bad (table c.args.self.now) c.in-Some.bad (ap first_bad (sym c.table-rows.ensures.value) ∙ sym c.first_bad.ensures ∙ c.in-Some.is)
