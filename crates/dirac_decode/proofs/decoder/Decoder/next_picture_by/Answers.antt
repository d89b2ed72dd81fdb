use Rattle.std.proofs.Common.{◌∙◌, ◌+◌, ◌^◌, ap, length, refl, sym, [], None, Some}
use Rattle.dirac_decode.specs.Decoding.{Decoding}
use Rattle.dirac_decode.proofs.Behind.{answers_behind, breaks_behind, due_behind, gives_behind, none_found, stops_behind}
use Rattle.dirac_decode.proofs.Counts.{below_on, le_itself, le_on, place_below, rose_since}
use Rattle.dirac_decode.proofs.Leading.{leads_on, leads_same, not_stopped, turns_fall}
use Rattle.dirac_decode.proofs.UpTo.{up_to_behind, up_to_step}
use Rattle.dirac_decode.proofs.decoder.Decoder.next_picture_by.Goals as goal

pub units-init : goal.units-init
units-init g c = record {
  leads = leads_same c.args.self.now c.args.self.now (g.S.Source.held c.args.source.now) refl;
  given = refl;
  stopped = λ is. refl;
  still = λ ne. (refl, refl);
  up_to = λ going none ne. absurd (ne going none);
  whole = λ at_end is. at_end is;
  most = le_itself c.args.self.now.state.most;
  room = le_itself (c.args.self.now.units.unit_place.at + length c.args.self.now.units.ahead + g.S.Source.left c.args.source.now);
  ahead = λ none. none;
  count = le_itself (g.S.Source.faults c.args.source.now);
}

pub step_by-requires-clause-no_overflow : goal.step_by-requires-clause-no_overflow
step_by-requires-clause-no_overflow g c = below_on (c.units.self.units.unit_place.at + length c.units.self.units.ahead + g.S.Source.left c.units.source) (c.args.self.now.units.unit_place.at + length c.args.self.now.units.ahead + g.S.Source.left c.args.source.now) (2 ^ 63) c.units.invariant.room c.requires.no_overflow

pub returns-in-Some : goal.returns-in-Some
returns-in-Some g c =
    let a = c.args.self.now in
    let b = c.units.self in
    let d = c.step_by.new.self in
    let so = c.units.invariant in
    let held = g.S.Source.held c.args.source.now in
    let held' = g.S.Source.held c.units.source in
    let held'' = g.S.Source.held c.step_by.new.source in
    let next = c.in-Some.next in
    record {
      gives = gives_behind next a b d held held' held'' so.leads so.given so.stopped c.in-Some.ensures.gives;
      repeated = answers_behind a b next (λ ne. (so.still (λ going none. ne going)).1) c.in-Some.ensures.repeated;
      due = due_behind next a b d held' held'' (λ some. (so.still (λ going. some)).1) c.in-Some.ensures.at_most_one_unit;
      due_without_reading = λ some.
          let same = so.still (λ going. some) in
          c.step_by.ensures.due_without_reading (λ none. some (sym (ap (λ (x : Decoding). x.due) same.1) ∙ none)) ∙ same.0;
      repeats_without_reading = λ ne.
          let same = so.still (λ going none. ne going) in
          c.step_by.ensures.repeats_without_reading (λ going. ne (sym (ap (λ (x : Decoding). x.stream_end) same.1) ∙ going)) ∙ same.0;
      up_to = λ going none.
          up_to_behind b.due next a b d held held' held'' refl so.leads (λ is. not_stopped a.stream_end going (sym (ap (λ (x : Decoding). x.stream_end) (so.stopped is)) ∙ is)) (so.up_to going none)
          (λ ne. ap g.S.Source.held (c.step_by.ensures.repeats_without_reading ne)) c.in-Some.ensures.gives c.in-Some.ensures.at_most_one_unit;
      whole = λ at_end. c.step_by.ensures.whole (so.whole at_end);
      broken_off = λ is. breaks_behind a b held held' held'' so.leads (c.step_by.ensures.broken_off (c.in-Some.is ∙ ap Some is));
      stops = λ is. stops_behind a b held held' held'' so.leads (c.step_by.ensures.stops (c.in-Some.is ∙ ap Some is));
      none_ahead = λ none. c.step_by.ensures.none_ahead (so.ahead none);
      read = λ is. rose_since (g.S.Source.faults c.args.source.now) (g.S.Source.faults c.units.source) (g.S.Source.faults c.step_by.new.source) so.count (c.step_by.ensures.read (c.in-Some.is ∙ ap Some is));
      count = le_on (g.S.Source.faults c.args.source.now) (g.S.Source.faults c.units.source) (g.S.Source.faults c.step_by.new.source) so.count c.step_by.ensures.count;
      fits = c.step_by.ensures.fits;
      greatest = le_on a.state.most b.state.most d.state.most so.most c.step_by.ensures.greatest;
      no_overflow = le_on (d.units.unit_place.at + length d.units.ahead + g.S.Source.left c.step_by.new.source) (b.units.unit_place.at + length b.units.ahead + g.S.Source.left c.units.source) (a.units.unit_place.at + length a.units.ahead + g.S.Source.left c.args.source.now) c.step_by.ensures.no_overflow so.room;
    }

pub units-preserved : goal.units-preserved
units-preserved g c =
    let a = c.args.self.now in
    let b = c.units.self in
    let d = c.step_by.new.self in
    let so = c.units.invariant in
    let gives = c.in_default.ensures.gives in
    let one = c.in_default.ensures.at_most_one_unit in
    let none = none_found b d (g.S.Source.held c.units.source) (g.S.Source.held c.step_by.new.source) gives.1 one in
    record {
      leads = leads_on a b d (g.S.Source.held c.args.source.now) (g.S.Source.held c.units.source) (g.S.Source.held c.step_by.new.source) [] so.leads gives.0;
      given = gives.3 ∙ so.given;
      stopped = λ is. absurd (gives.2 is);
      still = λ ne.
          let same = (so.still ne).1 in
          absurd (ne (sym (ap (λ (x : Decoding). x.stream_end) same) ∙ gives.1) (sym (ap (λ (x : Decoding). x.due) same) ∙ none));
      up_to = λ going empty ne.
          up_to_step None a b d (g.S.Source.held c.args.source.now) (g.S.Source.held c.units.source) (g.S.Source.held c.step_by.new.source) so.leads gives.1 none one;
      whole = λ at_end. c.step_by.ensures.whole (so.whole at_end);
      most = le_on a.state.most b.state.most d.state.most so.most c.step_by.ensures.greatest;
      room = le_on (d.units.unit_place.at + length d.units.ahead + g.S.Source.left c.step_by.new.source) (b.units.unit_place.at + length b.units.ahead + g.S.Source.left c.units.source) (a.units.unit_place.at + length a.units.ahead + g.S.Source.left c.args.source.now) c.step_by.ensures.no_overflow so.room;
      ahead = λ none. c.step_by.ensures.none_ahead (so.ahead none);
      count = le_on (g.S.Source.faults c.args.source.now) (g.S.Source.faults c.units.source) (g.S.Source.faults c.step_by.new.source) so.count c.step_by.ensures.count;
    }

pub units-smaller : goal.units-smaller
units-smaller g c =
    let b = c.units.self in
    let d = c.step_by.new.self in
    let gives = c.in_default.ensures.gives in
    turns_fall b.stream_end d.stream_end b.units.unit_place.at d.units.unit_place.at gives.1 gives.4
    (place_below c.units.self.units.unit_place.at (length c.units.self.units.ahead) (g.S.Source.left c.units.source) (2 ^ 63) (below_on (c.units.self.units.unit_place.at + length c.units.self.units.ahead + g.S.Source.left c.units.source) (c.args.self.now.units.unit_place.at + length c.args.self.now.units.ahead + g.S.Source.left c.args.source.now) (2 ^ 63) c.units.invariant.room c.requires.no_overflow))
