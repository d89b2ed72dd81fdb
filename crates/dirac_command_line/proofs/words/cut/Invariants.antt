use Rattle.std.proofs.Common.{◌≡◌, ◌+◌, ◌≤◌, drop, map, string_bytes}
use Rattle.dirac_command_line.specs.Words.{cut_behind, cut_read}
use Rattle.dirac_command_line.proofs.CutWords.{room}
use Rattle.dirac_command_line.proofs.words.cut.Given as goal

abbrev pub invariant-words : goal.invariant-words
invariant-words l = record {
  so : cut_read (map string_bytes l.others) ≡ cut_behind l.number l.points (map string_bytes (drop l.word-index l.others));
  few : l.number + room l.points ≤ 3;
}
