use Rattle.std.proofs.Common.{◌≡◌, ◌∙◌, ◌+◌, ◌^◌, ℕ, length, List, Option, ap, refl, subst, sym, None, Some}
use Rattle.std.specs.Io.KnownBytes.{append_known}
use Rattle.dirac_units.specs.declared.unit.StreamEnd.TheVariants as stream_end
use Rattle.dirac_decode.specs.declared.answers.Next.TheVariants as next
use Rattle.dirac_decode.specs.Decoding.{AnswersWhatWasMet, BreaksOff, Decoding, Gives, StopsIn}
use Rattle.dirac_decode.specs.Advancing.{answer_by}
use Rattle.dirac_decode.specs.Stepping.{IsThere, StepGives, StepGivesBefore, TakesOne}
use Rattle.dirac_decode.proofs.Counts.{le_from, le_itself, le_same, room_below, room_from, room_same}
use Rattle.dirac_decode.proofs.Turning.{answers_met, answers_shown, due_given, due_stays, gives_met, leads_due, met_no_memory, met_no_read, none_due, one_due, one_met, one_stopped, one_unit, repeats_any, shown_no_memory, shown_no_read, some_is, stopped_no_memory, stopped_no_read}
use Rattle.dirac_decode.proofs.decoder.Decoder.step_by.Goals as goal

pub returns-in-Stopped : goal.returns-in-Stopped
returns-in-Stopped g c =
    let a = c.args.self.now in
    let stopped : a.stream_end ≡ stream_end.Stopped = sym c.met-met.ensures.value ∙ c.in-Stopped.is in
    record {
      gives = (stopped, refl);
      at_most_one_unit = one_stopped a (g.S.Source.held c.args.source.now) stopped;
      before_more = λ there more. (stopped, refl);
      repeated = subst (λ n. AnswersWhatWasMet a.stream_end a.due n) (ap answer_by stopped) (answers_met a.stream_end a.due);
      repeats_without_reading = λ ne. refl;
      due_without_reading = λ some. refl;
      whole = λ at_end is. at_end is;
      broken_off = λ is. absurd (stopped_no_read is);
      stops = λ is. absurd (stopped_no_memory is);
      none_ahead = λ none. none;
      read = λ is. absurd (stopped_no_read is);
      count = le_itself (g.S.Source.faults c.args.source.now);
      fits = c.met-met.ensures.fits;
      greatest = le_itself a.state.most;
      no_overflow = le_itself (a.units.unit_place.at + length a.units.ahead + g.S.Source.left c.args.source.now);
    }

pub returns-in-Some : goal.returns-in-Some
returns-in-Some g c =
    let a = c.args.self.now in
    let d = c.next_due.new.self in
    let p = c.in-Some.picture in
    let due = c.in-Some.ensures.gives in
    let held = g.S.Source.held c.args.source.now in
    let moving : a.stream_end ≡ stream_end.Stopped → ⊥ = λ e. c.in_default.not-Stopped (c.met-met.ensures.value ∙ e) in
    let stays = due_stays (Some p) a d due in
    record {
      gives = (leads_due p a d held due, due_given p a d due, λ is. sym stays.stream_end ∙ is);
      at_most_one_unit = one_due p a d held due;
      before_more = λ there more. (leads_due p a d (append_known held more) due, due_given p a d due, λ is. sym stays.stream_end ∙ is);
      repeated = answers_shown a.stream_end a.due p d.due moving due.0;
      repeats_without_reading = λ ne. refl;
      due_without_reading = λ some. refl;
      whole = λ at_end is. at_end (sym stays.stream_end ∙ is);
      broken_off = λ is. absurd (shown_no_read p is);
      stops = λ is. absurd (shown_no_memory p is);
      none_ahead = λ none. stays.ahead ∙ none;
      read = λ is. absurd (shown_no_read p is);
      count = le_itself (g.S.Source.faults c.args.source.now);
      fits = c.next_due.ensures.fits;
      greatest = le_same a.state.most d.state.most stays.most;
      no_overflow = room_same (a.units.unit_place.at + length a.units.ahead) (d.units.unit_place.at + length d.units.ahead) (g.S.Source.left c.args.source.now) stays.place;
    }

pub take_unit-requires-clause-no_overflow : goal.take_unit-requires-clause-no_overflow
take_unit-requires-clause-no_overflow g c =
    let stays = due_stays None c.args.self.now c.next_due.new.self c.in_default-next_due.ensures.gives in
    room_below (c.args.self.now.units.unit_place.at + length c.args.self.now.units.ahead) (c.next_due.new.self.units.unit_place.at + length c.next_due.new.self.units.ahead) (g.S.Source.left c.args.source.now) (2 ^ 63) stays.place c.requires.no_overflow

pub take_unit-requires-clause-going : goal.take_unit-requires-clause-going
take_unit-requires-clause-going g c =
    let stays = due_stays None c.args.self.now c.next_due.new.self c.in_default-next_due.ensures.gives in
    stays.stream_end ∙ sym c.met-met.ensures.value ∙ c.in-Going.is

pub take_unit-requires-clause-none_due : goal.take_unit-requires-clause-none_due
take_unit-requires-clause-none_due g c =
    none_due c.args.self.now c.next_due.new.self c.in_default-next_due.ensures.gives

pub returns-in-Going : goal.returns-in-Going
returns-in-Going g c =
    let a = c.args.self.now in
    let b = c.next_due.new.self in
    let d = c.take_unit.new.self in
    let answer = c.take_unit.result in
    let held = g.S.Source.held c.args.source.now in
    let held' = g.S.Source.held c.take_unit.new.source in
    let due = c.in_default-next_due.ensures.gives in
    let taken = c.take_unit.ensures in
    let stays = due_stays None a b due in
    let going : a.stream_end ≡ stream_end.Going = sym c.met-met.ensures.value ∙ c.in-Going.is in
    record {
      gives = subst (λ (x : Decoding). StepGives answer x d held held') due.1 taken.gives;
      at_most_one_unit = subst (λ (x : Decoding). TakesOne answer x d held held') due.1
          (one_unit answer b d held held' (none_due a b due) (stays.stream_end ∙ going) taken.takes);
      before_more = subst (λ (x : Decoding). IsThere x.units held → StepGivesBefore answer x d held held') due.1 taken.before_more;
      repeated = repeats_any a.stream_end a.due answer going;
      repeats_without_reading = λ ne. absurd (ne going);
      due_without_reading = λ some. absurd (some due.0);
      whole = λ at_end. taken.at_the_end;
      broken_off = λ is. subst (λ (x : Decoding). BreaksOff x held held') due.1 (taken.broken_off is);
      stops = λ is. subst (λ (x : Decoding). StopsIn x held held') due.1 (taken.stops is);
      none_ahead = λ none. taken.none_ahead;
      read = taken.read;
      count = taken.count;
      fits = taken.fits;
      greatest = le_from a.state.most b.state.most d.state.most stays.most taken.greatest;
      no_overflow = room_from (a.units.unit_place.at + length a.units.ahead) (b.units.unit_place.at + length b.units.ahead) (d.units.unit_place.at + length d.units.ahead + g.S.Source.left c.take_unit.new.source) (g.S.Source.left c.args.source.now) stays.place taken.no_overflow;
    }

pub returns : goal.returns
returns g c =
    let a = c.args.self.now in
    let d = c.next_due.new.self in
    let answer = c.answer_behind.result in
    let stays = due_stays None a d c.in_default-next_due.ensures.gives in
    let held = g.S.Source.held c.args.source.now in
    let due = c.in_default-next_due.ensures.gives in
    let is : answer ≡ answer_by a.stream_end = c.answer_behind.ensures ∙ ap answer_by c.met-met.ensures.value in
    let met : a.stream_end ≡ stream_end.Going → ⊥ = λ e. c.in_default-met.not-Going (c.met-met.ensures.value ∙ e) in
    let gives : (known : Option (List ℕ)) → Gives answer a d known known = λ known.
    subst (λ n. Gives n a d known known) (sym is) (subst (λ (x : Decoding). Gives (answer_by a.stream_end) a x known known) (sym due.1) (gives_met a known met due.0)) in
    record {
      gives = gives held;
      at_most_one_unit = subst (λ (x : Decoding). TakesOne (Some answer) a x held held) (sym due.1) (one_met answer a held due.0 met);
      before_more = λ there more. gives (append_known held more);
      repeated = subst (λ n. AnswersWhatWasMet a.stream_end a.due n) (sym is) (answers_met a.stream_end a.due);
      repeats_without_reading = λ ne. refl;
      due_without_reading = λ some. refl;
      whole = λ at_end e. at_end (sym stays.stream_end ∙ e);
      broken_off = λ e. absurd (met_no_read a.stream_end (sym is ∙ some_is answer next.ReadFault e));
      stops = λ e. absurd (met_no_memory a.stream_end (sym is ∙ some_is answer next.NoMemory e));
      none_ahead = λ none. stays.ahead ∙ none;
      read = λ e. absurd (met_no_read a.stream_end (sym is ∙ some_is answer next.ReadFault e));
      count = le_itself (g.S.Source.faults c.args.source.now);
      fits = c.next_due.ensures.fits;
      greatest = le_same a.state.most d.state.most stays.most;
      no_overflow = room_same (a.units.unit_place.at + length a.units.ahead) (d.units.unit_place.at + length d.units.ahead) (g.S.Source.left c.args.source.now) stays.place;
    }
