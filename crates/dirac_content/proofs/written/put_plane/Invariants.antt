use Rattle.std.proofs.Common.{◌≤◌, length}
use Rattle.dirac_content.specs.Raw.{byte_of}
use Rattle.dirac_content.proofs.Rows.{AreWrittenTo}
use Rattle.dirac_content.proofs.written.put_plane.Given as goal

abbrev pub invariant-pieces : goal.invariant-pieces
invariant-pieces g l =
    AreWrittenTo byte_of l.plane.values l.rest (g.K.Sink.taken l.initial.out) (g.K.Sink.taken l.out)
    × (g.K.Sink.faults l.initial.out ≤ g.K.Sink.faults l.out)

abbrev pub decreases-pieces : goal.decreases-pieces
decreases-pieces g l = length l.rest
