use Rattle.std.proofs.Common.{ap, ap₂, ℕ, Option}
use Rattle.dirac_types.specs.declared.settings.Settings.{Settings}
use Rattle.dirac_command_line.specs.declared.words.Command.{Command}
use Rattle.dirac_command_line.specs.declared.words.Command.TheVariants.{Rate}
use Rattle.dirac_command_line.specs.Words.{rate_read, where_all_fit}
use Rattle.dirac_command_line.proofs.words.rate.Goals as goal

pub returns-in-None : goal.returns-in-None
unfolding rate_read
returns-in-None c =
    ap₂ (λ (command : Command) (unfit : Option ℕ). where_all_fit command unfit)
    (ap₂ (λ (s : Settings) (budget : ℕ). Rate s budget) c.settings_given.ensures c.budget_given.ensures) c.in-None.ensures

pub returns-in-Some : goal.returns-in-Some
unfolding rate_read
returns-in-Some c = ap (where_all_fit (Rate _ _)) c.in-Some.ensures
