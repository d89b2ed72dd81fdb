use Rattle.std.proofs.Common.{◌∙◌, ◌+◌, ◌^◌, ap, if◌then◌else◌, length}
use Rattle.dirac_decode.specs.Advancing.{count_shown}
use Rattle.dirac_decode.specs.Decoding.{Decoding, emptied}
use Rattle.dirac_decode.proofs.Counts.{count_fits, counted_on, given_fits, le_between, room_below, room_from}
use Rattle.dirac_decode.proofs.Leading.{most_of}
use Rattle.dirac_decode.proofs.Turning.{breaks_idle, idle_is, step_breaks, step_counts, step_ends, step_gives, step_gives_before, step_going, step_stops, step_takes, stops_idle}
use Rattle.dirac_decode.proofs.decoder.Decoder.take_unit.Goals as goal

pub advance_by_unit-taken-requires-clause-going : goal.advance_by_unit-taken-requires-clause-going
advance_by_unit-taken-requires-clause-going g c =
    c.self.invariant.2 (ap (λ (x : Decoding). x.stream_end) c.self.view_is ∙ c.requires.going)

pub advance_by_unit-taken-requires-clause-no_overflow : goal.advance_by_unit-taken-requires-clause-no_overflow
advance_by_unit-taken-requires-clause-no_overflow g c =
    room_below (c.args.self.now.units.unit_place.at + length c.args.self.now.units.ahead) (c.self.inside.units.unit_place.at + length c.self.inside.units.ahead) (g.S.Source.left c.args.source.now) (2 ^ 63) (ap (λ (x : Decoding). x.units.unit_place.at + length x.units.ahead) c.self.view_is) c.requires.no_overflow

pub overflow_add-self : goal.overflow_add-self
overflow_add-self g c =
    let after = c.advance_by_unit-taken.ensures in
    given_fits c.self.inside.given c.turn_of-answer.result.shown (count_shown c.advance_by_unit-taken.result) (length c.self.inside.state.waiting) (length c.advance_by_unit-taken.new.state.waiting) c.self.inside.units.unit_place.index c.advance_by_unit-taken.new.units.unit_place.index c.self.invariant.0 (step_counts c.advance_by_unit-taken.result c.turn_of-answer.result c.turn_of-answer.ensures) after.no_more_than_units after.fits

pub invariant_of-self : goal.invariant_of-self
invariant_of-self g c =
    let after = c.advance_by_unit-taken.ensures in (
      counted_on c.self.inside.given c.turn_of-answer.result.shown (count_shown c.advance_by_unit-taken.result) (length c.self.inside.state.waiting) (length c.advance_by_unit-taken.new.state.waiting) c.self.inside.units.unit_place.index c.advance_by_unit-taken.new.units.unit_place.index c.self.invariant.0 (step_counts c.advance_by_unit-taken.result c.turn_of-answer.result c.turn_of-answer.ensures) after.no_more_than_units,
      after.fits,
      step_going c.advance_by_unit-taken.result c.turn_of-answer.result c.self.inside.units c.advance_by_unit-taken.new.units c.turn_of-answer.ensures after.goes_on,
    )

pub returns : goal.returns
returns g c =
    let d = c.args.self.now in
    let taken = c.advance_by_unit-taken.result in
    let made = c.turn_of-answer.ensures in
    let after = c.advance_by_unit-taken.ensures in
    let units = c.self.inside.units in
    let units' = c.advance_by_unit-taken.new.units in
    let state = c.self.inside.state in
    let state' = c.advance_by_unit-taken.new.state in
    let given = c.self.inside.given in
    let held = g.S.Source.held c.args.source.now in
    let held' = g.S.Source.held c.advance_by_unit-taken.new.source in
    let here = idle_is d units state c.self.inside.draining given c.self.inside.stream_end c.self.view_is c.requires.going c.requires.none_due in
    let same = ap (λ (x : Decoding). x.units) here in
    record {
      gives = step_gives d taken c.turn_of-answer.result units units' state state' given held held' made here after.advances after.goes_on;
      takes = step_takes d taken c.turn_of-answer.result units units' state state' given held held' made here after.takes;
      before_more = step_gives_before d taken c.turn_of-answer.result units units' state state' given held held' made here after.advances_before_more after.goes_on;
      at_the_end = λ is. after.at_the_end (step_ends taken c.turn_of-answer.result made is);
      broken_off = λ is. breaks_idle d units held held' same c.requires.going c.requires.none_due (after.part (step_breaks taken c.turn_of-answer.result made is));
      stops = λ is. stops_idle d units held held' same c.requires.going (after.taken (step_stops taken c.turn_of-answer.result made is));
      none_ahead = after.none_ahead;
      read = λ is. after.read (step_breaks taken c.turn_of-answer.result made is);
      count = after.count;
      fits = count_fits c.self.inside.given c.turn_of-answer.result.shown (count_shown c.advance_by_unit-taken.result) (length c.self.inside.state.waiting) (length c.advance_by_unit-taken.new.state.waiting) c.self.inside.units.unit_place.index c.advance_by_unit-taken.new.units.unit_place.index c.self.invariant.0 (step_counts taken c.turn_of-answer.result made) after.no_more_than_units after.fits;
      greatest = le_between d.state.most (if c.self.inside.draining then emptied state else state).most state.most state'.most (if c.turn_of-answer.result.draining then emptied state' else state').most (ap (λ (x : Decoding). x.state.most) c.self.view_is) (most_of c.self.inside.draining state) (most_of c.turn_of-answer.result.draining state') after.greatest_never_falls;
      no_overflow = room_from (d.units.unit_place.at + length d.units.ahead) (units.unit_place.at + length units.ahead) (units'.unit_place.at + length units'.ahead + g.S.Source.left c.advance_by_unit-taken.new.source) (g.S.Source.left c.args.source.now) (ap (λ (x : Decoding). x.units.unit_place.at + length x.units.ahead) c.self.view_is) after.no_overflow_result;
    }
