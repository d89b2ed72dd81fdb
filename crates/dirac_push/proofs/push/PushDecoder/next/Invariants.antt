use Rattle.std.proofs.Common.{◌≡◌, ◌<◌, ◌^◌, [], None}
use Rattle.dirac_units.specs.declared.unit.StreamEnd.TheVariants as stream_end
use Rattle.dirac_decode.proofs.Leading.{turns_left}
use Rattle.dirac_push.specs.Pushing.{PushPasses, TakesSilently}
use Rattle.dirac_push.proofs.Passing.{Still}
use Rattle.dirac_push.proofs.push.PushDecoder.next.Given as goal

abbrev pub invariant-units : goal.invariant-units
invariant-units l = record {
  passes : PushPasses l.fn.self l.self [] [];
  silent : TakesSilently l.fn.self l.self;
  given : l.self.decoder.given ≡ l.fn.self.decoder.given;
  shown : l.self.shown ≡ None;
  moving : l.self.decoder.stream_end ≡ stream_end.Stopped → ⊥;
  still : Still l.fn.self l.self;
  finished : l.self.is_finished ≡ l.fn.self.is_finished;
  room : l.self.room ≡ l.fn.self.room;
  fits : l.self.decoder.units.unit_place.at < 2 ^ 63;
}

abbrev pub decreases-units : goal.decreases-units
decreases-units l = turns_left l.self.decoder.stream_end l.self.decoder.units.unit_place.at
