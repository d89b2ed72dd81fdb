use Rattle.std.proofs.Common.{ap, ap₂, ℕ, Option}
use Rattle.dirac_types.specs.declared.settings.Settings.{Settings}
use Rattle.dirac_command_line.specs.declared.words.Command.{Command}
use Rattle.dirac_command_line.specs.declared.words.Command.TheVariants.{Make}
use Rattle.dirac_command_line.specs.Words.{make_read, where_all_fit}
use Rattle.dirac_command_line.proofs.words.make.Goals as goal

pub returns-in-None : goal.returns-in-None
unfolding make_read
returns-in-None c =
    ap₂ (λ (command : Command) (unfit : Option ℕ). where_all_fit command unfit)
    (ap₂ (λ (s : Settings) (count : ℕ). Make s count) c.settings_given.ensures c.count_given.ensures) c.in-None.ensures

pub returns-in-Some : goal.returns-in-Some
unfolding make_read
returns-in-Some c = ap (where_all_fit (Make _ _)) c.in-Some.ensures
