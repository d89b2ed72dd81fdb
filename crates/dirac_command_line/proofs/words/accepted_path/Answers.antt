use Rattle.std.proofs.Common.{◌≡◌, ℕ, List, None, Some, Option, Ok, Err, refl, sym, ◌∙◌, map, string_bytes}
use Rattle.std.proofs.Common.{option_copied}
use Rattle.dirac_types.specs.declared.settings.BadSetting.{BadSetting}
use Rattle.dirac_types.specs.Settings.{verdict}
use Rattle.dirac_command_line.specs.Options.{path_given}
use Rattle.dirac_command_line.specs.Words.{path_accepted}
use Rattle.dirac_command_line.proofs.words.accepted_path.Goals as goal

where_accepted : (words : List (List ℕ)) (path : Option (List ℕ)) (o : Option BadSetting) → path ≡ path_given words
    → Ok tt ≡ verdict o → path ≡ path_accepted o words
where_accepted words path None is good = is
where_accepted words path (Some bad) is good = absurd cc

where_refused : (words : List (List ℕ)) (o : Option BadSetting) (bad : BadSetting) → Err bad ≡ verdict o
    → None ≡ path_accepted o words
where_refused words None bad refused = absurd cc
where_refused words (Some b) bad refused = refl

pub returns-in-Ok : goal.returns-in-Ok
returns-in-Ok c = λ o is. where_accepted (map string_bytes c.args.others.now) (option_copied c.path_given.result) o c.path_given.ensures (sym c.in-Ok.is ∙ is)

pub returns-in-Err : goal.returns-in-Err
returns-in-Err c = λ o is. where_refused (map string_bytes c.args.others.now) o _ (sym c.in-Err.is ∙ is)
