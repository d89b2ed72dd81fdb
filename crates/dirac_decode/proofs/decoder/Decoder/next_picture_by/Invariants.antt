use Rattle.std.proofs.Common.{◌≡◌, ◌+◌, ◌≤◌, [], length, None}
use Rattle.std.specs.Io.KnownBytes.{IsAtEnd}
use Rattle.dirac_units.specs.declared.unit.StreamEnd.TheVariants as stream_end
use Rattle.dirac_decode.specs.Decoding.{LeadsTo}
use Rattle.dirac_decode.specs.Stepping.{TakesUpTo}
use Rattle.dirac_decode.proofs.Leading.{turns_left}
use Rattle.dirac_decode.proofs.decoder.Decoder.next_picture_by.Given as goal

abbrev pub invariant-units : goal.invariant-units
invariant-units g l = record {
  leads : LeadsTo l.fn.self l.self (g.S.Source.held l.initial.source) (g.S.Source.held l.source) [];
  given : l.self.given ≡ l.fn.self.given;
  stopped : l.self.stream_end ≡ stream_end.Stopped → l.self ≡ l.fn.self;
  still : (l.fn.self.stream_end ≡ stream_end.Going → l.fn.self.due ≡ [] → ⊥) → (l.source ≡ l.initial.source) × (l.self ≡ l.fn.self);
  up_to : l.fn.self.stream_end ≡ stream_end.Going → l.fn.self.due ≡ [] → (l.self.stream_end ≡ stream_end.Going → l.self.due ≡ [] → ⊥) → TakesUpTo None l.fn.self l.self (g.S.Source.held l.initial.source) (g.S.Source.held l.source);
  whole : (l.fn.self.stream_end ≡ stream_end.Ended → IsAtEnd (g.S.Source.held l.initial.source)) → l.self.stream_end ≡ stream_end.Ended → IsAtEnd (g.S.Source.held l.source);
  most : l.fn.self.state.most ≤ l.self.state.most;
  room : l.self.units.unit_place.at + length l.self.units.ahead + g.S.Source.left l.source ≤ l.fn.self.units.unit_place.at + length l.fn.self.units.ahead + g.S.Source.left l.initial.source;
  ahead : l.fn.self.units.ahead ≡ [] → l.self.units.ahead ≡ [];
  count : g.S.Source.faults l.initial.source ≤ g.S.Source.faults l.source;
}

abbrev pub decreases-units : goal.decreases-units
decreases-units g l = turns_left l.self.stream_end l.self.units.unit_place.at
