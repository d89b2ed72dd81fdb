use Rattle.std.proofs.Common.{ap, ap₂, ℕ, Option}
use Rattle.dirac_command_line.specs.declared.words.Command.TheVariants.{Pardecode}
use Rattle.dirac_command_line.specs.Words.{pardecode_read, where_all_fit}
use Rattle.dirac_command_line.proofs.words.pardecode.Goals as goal

pub returns-in-None : goal.returns-in-None
unfolding pardecode_read
returns-in-None c =
    ap₂ (λ (n : ℕ) (unfit : Option ℕ). where_all_fit (Pardecode n) unfit) c.workers_given.ensures c.in-None.ensures

pub returns-in-Some : goal.returns-in-Some
unfolding pardecode_read
returns-in-Some c = ap (where_all_fit (Pardecode _)) c.in-Some.ensures
