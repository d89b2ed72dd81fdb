use Rattle.std.proofs.Common.{◌≡◌, drop}
use Rattle.std.specs.Str.{all_ascii_digits}
use Rattle.dirac_command_line.proofs.options.is_digits.Given as goal

abbrev pub invariant-bytes : goal.invariant-bytes
invariant-bytes l = all_ascii_digits (drop l.byte-index l.text) ≡ all_ascii_digits l.text
