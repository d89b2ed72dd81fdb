use Rattle.std.proofs.Common.{◌≡◌, ◌≤◌, ◌+◌, ◌-◌, length, take}
use Rattle.std.specs.Io.KnownBytes.{Consumes}
use Rattle.dirac_ahead.proofs.pieces.fill_piece.Given as goal

abbrev pub invariant-filling : goal.invariant-filling
invariant-filling g l = record {
  read : Consumes (g.S.Source.held l.initial.source) (g.S.Source.held l.source) (take l.count l.piece);
  size : length l.piece ≡ length l.initial.piece;
  fits : l.count ≤ length l.piece;
  left_never_rises : l.count + g.S.Source.left l.source ≤ g.S.Source.left l.initial.source;
  none_taken : l.count ≡ 0 → g.S.Source.left l.source ≡ g.S.Source.left l.initial.source;
  faults_never_fall : g.S.Source.faults l.initial.source ≤ g.S.Source.faults l.source;
}

abbrev pub decreases-filling : goal.decreases-filling
decreases-filling g l = length l.piece - l.count
