use Rattle.std.proofs.Common.{◌≡◌, drop, map, string_bytes}
use Rattle.dirac_command_line.specs.Options.{path_given}
use Rattle.dirac_command_line.proofs.options.path_given.Given as goal

abbrev pub invariant-words : goal.invariant-words
invariant-words l = path_given (map string_bytes (drop l.word-index l.words)) ≡ path_given (map string_bytes l.words)
