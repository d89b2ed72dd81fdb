use Rattle.std.proofs.Common.{◌≡◌, List, ℕ, ◌≤◌, ◌++◌, length}
use Rattle.std.specs.Io.KnownBytes.{Appends}
use Rattle.dirac_io.proofs.sink.put_all.Given as goal

-- a front of the piece was taken, and the rest is still to be written
abbrev pub invariant-writing : goal.invariant-writing
invariant-writing g l =
    ((front : List ℕ) × (l.piece ≡ front ++ l.rest) × Appends (g.K.Sink.taken l.initial.sink) (g.K.Sink.taken l.sink) front)
    × (g.K.Sink.faults l.initial.sink ≤ g.K.Sink.faults l.sink)

abbrev pub decreases-writing : goal.decreases-writing
decreases-writing g l = length l.rest
