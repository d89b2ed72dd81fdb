use Rattle.std.proofs.Common.{◌+◌, ◌≤◌, length}
use Rattle.std.specs.Io.KnownBytes.{Consumes}
use Rattle.dirac_edit.proofs.reading.take_all.Given as goal

abbrev pub invariant-pieces : goal.invariant-pieces
invariant-pieces g l = record {
  taken : Consumes (g.S.Source.held l.initial.source) (g.S.Source.held l.source) l.bytes.items;
  room : length l.bytes.items + g.S.Source.left l.source ≤ g.S.Source.left l.initial.source;
  reads : g.S.Source.faults l.initial.source ≤ g.S.Source.faults l.source;
}

abbrev pub decreases-pieces : goal.decreases-pieces
decreases-pieces g l = g.S.Source.left l.source
