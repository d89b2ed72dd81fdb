use Rattle.std.proofs.Common.{◌≡◌}
use Rattle.dirac_lift.specs.AtWork.{IsAtWork}
use Rattle.dirac_lift.proofs.half_levels.LinesAtWork.begin.Given as goal

abbrev pub invariant-loop-turn : goal.invariant-loop-turn
invariant-loop-turn g l = record {
  at_work : IsAtWork (g.S.RowPairs.evens l.source) (g.S.RowPairs.odds l.source) l.lines;
  wavelet : l.lines.wavelet ≡ l.wavelet;
  width : l.lines.size.width ≡ l.width;
  half : l.lines.size.half ≡ l.height;
  turn : l.lines.turn ≡ l._turn;
}
