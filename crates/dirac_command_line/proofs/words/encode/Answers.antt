use Rattle.std.proofs.Common.{ap, ap₂, ℕ, Option}
use Rattle.dirac_types.specs.declared.settings.Settings.{Settings}
use Rattle.dirac_command_line.specs.declared.words.Command.TheVariants.{Encode}
use Rattle.dirac_command_line.specs.Words.{encode_read, where_all_fit}
use Rattle.dirac_command_line.proofs.words.encode.Goals as goal

pub returns-in-None : goal.returns-in-None
unfolding encode_read
returns-in-None c = ap₂ (λ (s : Settings) (unfit : Option ℕ). where_all_fit (Encode s) unfit) c.settings_given.ensures c.in-None.ensures

pub returns-in-Some : goal.returns-in-Some
unfolding encode_read
returns-in-Some c = ap (where_all_fit (Encode _)) c.in-Some.ensures
