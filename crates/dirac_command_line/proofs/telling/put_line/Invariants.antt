use Rattle.std.proofs.Common.{◌≡◌, List, ℕ, ◌≤◌, ◌++◌, length}
use Rattle.std.specs.Io.KnownBytes.{Appends}
use Rattle.dirac_io.specs.Faults.{held_count}
use Rattle.dirac_command_line.proofs.telling.put_line.Given as goal

-- a front of the line was written, and the rest is still to be
abbrev pub invariant-writing : goal.invariant-writing
invariant-writing g l =
    ((front : List ℕ) × (l.line ≡ front ++ l.rest)
    × Appends (g.T.Write.contents l.initial.texts.writer) (g.T.Write.contents l.texts.writer) front)
    × (held_count l.initial.texts.faults ≤ held_count l.texts.faults)

abbrev pub decreases-writing : goal.decreases-writing
decreases-writing g l = length l.rest
