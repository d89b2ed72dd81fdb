use Rattle.std.proofs.Common.{◌≡◌, ◌+◌, ◌≤◌, [], take, drop, map, string_bytes}
use Rattle.dirac_command_line.specs.Options.{first_unfit}
use Rattle.dirac_command_line.proofs.Room.{room}
use Rattle.dirac_command_line.proofs.options.first_unfit.Given as goal

abbrev pub invariant-words : goal.invariant-words
invariant-words l =
    let before = map string_bytes (take l.i l.words) in
    (first_unfit l.of before (map string_bytes (drop l.i l.words)) ≡ first_unfit l.of [] (map string_bytes l.words))
    × (l.number ≡ l.i + 1)
    × (l.number + room before ≤ 30)
