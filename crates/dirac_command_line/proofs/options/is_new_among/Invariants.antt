use Rattle.std.proofs.Common.{◌≡◌, drop, map, string_bytes}
use Rattle.std.specs.List.{list_any}
use Rattle.dirac_command_line.specs.Options.{is_new_setting}
use Rattle.dirac_command_line.proofs.options.is_new_among.Given as goal

abbrev pub invariant-names : goal.invariant-names
invariant-names l =
    let new = is_new_setting (map string_bytes l.before) l.word in
    list_any new (drop l.name-index l.names) ≡ list_any new l.names
