use Rattle.std.proofs.Common.{◌≡◌, drop, map, string_bytes}
use Rattle.dirac_command_line.specs.Options.{value_given}
use Rattle.dirac_command_line.proofs.options.value_given.Given as goal

abbrev pub invariant-words : goal.invariant-words
invariant-words l =
    value_given l.name (map string_bytes (drop l.word-index l.words)) ≡ value_given l.name (map string_bytes l.words)
