use Rattle.std.proofs.Common.{◌≡◌, ◌≤◌, ◌+◌, length}
use Rattle.std.specs.Io.KnownBytes.{Keeps, prepend_known}
use Rattle.dirac_ahead.proofs.pieces.grow.Given as goal

abbrev pub invariant-pieces : goal.invariant-pieces
invariant-pieces g l = record {
  no_byte_lost : Keeps (prepend_known l.initial.bytes.items (g.S.Source.held l.initial.source)) (prepend_known l.bytes.items (g.S.Source.held l.source));
  grown : length l.bytes.items + l.rest ≡ length l.initial.bytes.items + l.count;
  never_shorter : length l.initial.bytes.items ≤ length l.bytes.items;
  left_never_rises : length l.bytes.items + g.S.Source.left l.source ≤ length l.initial.bytes.items + g.S.Source.left l.initial.source;
  none_taken : length l.bytes.items ≡ length l.initial.bytes.items → g.S.Source.left l.source ≡ g.S.Source.left l.initial.source;
  faults_never_fall : g.S.Source.faults l.initial.source ≤ g.S.Source.faults l.source;
}

abbrev pub decreases-pieces : goal.decreases-pieces
decreases-pieces g l = l.rest
