use Rattle.std.proofs.Common.{◌+◌, ◌-◌, ◌^◌, ◌≤◌, length}
use Rattle.dirac_decode.proofs.Finishing.{IsUnderway}
use Rattle.dirac_decode.proofs.stream.write_pictures.Given as goal

abbrev pub invariant-pictures : goal.invariant-pictures
invariant-pictures g l = record {
  underway : IsUnderway l.decoder (g.S.Source.held l.initial.source) (g.S.Source.held l.source) (g.K.Sink.taken l.initial.out) (g.K.Sink.taken l.out);
  room : l.decoder.units.unit_place.at + length l.decoder.units.ahead + g.S.Source.left l.source ≤ g.S.Source.left l.initial.source;
  reads : g.S.Source.faults l.initial.source ≤ g.S.Source.faults l.source;
  writes : g.K.Sink.faults l.initial.out ≤ g.K.Sink.faults l.out;
}

abbrev pub decreases-pictures : goal.decreases-pictures
decreases-pictures g l = 2 ^ 64 - l.decoder.given
