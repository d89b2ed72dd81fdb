use Rattle.std.proofs.Common.{◌≡◌, ◌∙◌, ap, false, refl, subst, sym, None, Some, []}
use Rattle.dirac_units.specs.declared.unit.StreamEnd.TheVariants as stream_end
use Rattle.dirac_decode.specs.declared.answers.Next.{Next}
use Rattle.dirac_decode.specs.Stepping.{IsThere, IsWholeUnit, StepGives, StepGivesBefore}
use Rattle.dirac_push.specs.declared.answer.Answer.TheVariants as answers
use Rattle.dirac_push.specs.Pushing.{Pushed, TakesSilently, TakesUnits, TurnGives, kept_bytes, latest}
use Rattle.dirac_push.proofs.Passing.{turn_end, turn_fault, turn_left, turn_none, turn_shown}
use Rattle.dirac_push.proofs.Taking.{silent_left, silent_one, takes_left, takes_one}
use Rattle.dirac_push.proofs.push.PushDecoder.take_unit.Goals as goal

pub returns-in-None-clause-gives : goal.returns-in-None-clause-gives
returns-in-None-clause-gives c =
    let old : Pushed = record { decoder = c.self.inside.decoder; there = c.self.inside.queue; room = c.self.inside.room; is_finished = c.self.inside.is_finished; shown = c.self.inside.shown; format = c.self.inside.format } in
    let new : Pushed = record { decoder = c.step-step.new.self; there = c.step-step.new.source; room = c.self.inside.room; is_finished = c.self.inside.is_finished; shown = c.self.inside.shown; format = c.latest-self-inside.result } in
    let there = subst (λ (x : Pushed). x.is_finished ≡ false → IsWholeUnit x.there) (sym c.self.view_is) c.requires.there in
    let going = subst (λ (x : Pushed). x.decoder.stream_end ≡ stream_end.Going) (sym c.self.view_is) c.requires.going in
    let left = c.give_up.new.self in
    let is : left ≡ kept_bytes new.decoder.stream_end new.there = c.give_up.ensures ∙ ap (λ e. kept_bytes e new.there) c.stream_end.ensures in
    subst (λ (x : Pushed). TurnGives (None) x (record new { there = left })) c.self.view_is
    (turn_left (None) old new left going is
    (turn_none old new (c.in-None.ensures.gives, c.in-None.ensures.before_more, c.self.invariant.0, there, refl) (ap (λ (x : Pushed). x.shown) c.self.view_is ∙ c.requires.none_shown)))

pub returns-in-Some-Shown-clause-gives : goal.returns-in-Some-Shown-clause-gives
returns-in-Some-Shown-clause-gives c =
    let old : Pushed = record { decoder = c.self.inside.decoder; there = c.self.inside.queue; room = c.self.inside.room; is_finished = c.self.inside.is_finished; shown = c.self.inside.shown; format = c.self.inside.format } in
    let new : Pushed = record { decoder = c.step-step.new.self; there = c.step-step.new.source; room = c.self.inside.room; is_finished = c.self.inside.is_finished; shown = Some c.in-Some-Shown.picture; format = c.latest-self-inside.result } in
    let there = subst (λ (x : Pushed). x.is_finished ≡ false → IsWholeUnit x.there) (sym c.self.view_is) c.requires.there in
    let going = subst (λ (x : Pushed). x.decoder.stream_end ≡ stream_end.Going) (sym c.self.view_is) c.requires.going in
    let left = c.give_up.new.self in
    let is : left ≡ kept_bytes new.decoder.stream_end new.there = c.give_up.ensures ∙ ap (λ e. kept_bytes e new.there) c.stream_end.ensures in
    subst (λ (x : Pushed). TurnGives (Some answers.Shown) x (record new { there = left })) c.self.view_is
    (turn_left (Some answers.Shown) old new left going is
    (turn_shown old new c.in-Some-Shown.picture (subst (λ (n : Next). StepGives (Some n) old.decoder new.decoder (Some old.there) (Some new.there)) c.in-Some-Shown.field-0-is c.in-Some-Shown.ensures.gives, subst (λ (n : Next). IsThere old.decoder.units (Some old.there) → StepGivesBefore (Some n) old.decoder new.decoder (Some old.there) (Some new.there)) c.in-Some-Shown.field-0-is c.in-Some-Shown.ensures.before_more, c.self.invariant.0, there, refl) going (refl)))

pub returns-in-Some-End-clause-gives : goal.returns-in-Some-End-clause-gives
returns-in-Some-End-clause-gives c =
    let old : Pushed = record { decoder = c.self.inside.decoder; there = c.self.inside.queue; room = c.self.inside.room; is_finished = c.self.inside.is_finished; shown = c.self.inside.shown; format = c.self.inside.format } in
    let new : Pushed = record { decoder = c.step-step.new.self; there = c.step-step.new.source; room = c.self.inside.room; is_finished = c.self.inside.is_finished; shown = c.self.inside.shown; format = c.latest-self-inside.result } in
    let there = subst (λ (x : Pushed). x.is_finished ≡ false → IsWholeUnit x.there) (sym c.self.view_is) c.requires.there in
    let going = subst (λ (x : Pushed). x.decoder.stream_end ≡ stream_end.Going) (sym c.self.view_is) c.requires.going in
    let left = c.give_up.new.self in
    let is : left ≡ kept_bytes new.decoder.stream_end new.there = c.give_up.ensures ∙ ap (λ e. kept_bytes e new.there) c.stream_end.ensures in
    subst (λ (x : Pushed). TurnGives (Some answers.End) x (record new { there = left })) c.self.view_is
    (turn_left (Some answers.End) old new left going is
    (turn_end old new (subst (λ (n : Next). StepGives (Some n) old.decoder new.decoder (Some old.there) (Some new.there)) c.in-Some-End.field-0-is c.in-Some-End.ensures.gives, subst (λ (n : Next). IsThere old.decoder.units (Some old.there) → StepGivesBefore (Some n) old.decoder new.decoder (Some old.there) (Some new.there)) c.in-Some-End.field-0-is c.in-Some-End.ensures.before_more, c.self.invariant.0, there, refl) (ap (λ (x : Pushed). x.shown) c.self.view_is ∙ c.requires.none_shown)))

pub returns-in-Some-Fault-clause-gives : goal.returns-in-Some-Fault-clause-gives
returns-in-Some-Fault-clause-gives c =
    let old : Pushed = record { decoder = c.self.inside.decoder; there = c.self.inside.queue; room = c.self.inside.room; is_finished = c.self.inside.is_finished; shown = c.self.inside.shown; format = c.self.inside.format } in
    let new : Pushed = record { decoder = c.step-step.new.self; there = c.step-step.new.source; room = c.self.inside.room; is_finished = c.self.inside.is_finished; shown = c.self.inside.shown; format = c.latest-self-inside.result } in
    let there = subst (λ (x : Pushed). x.is_finished ≡ false → IsWholeUnit x.there) (sym c.self.view_is) c.requires.there in
    let going = subst (λ (x : Pushed). x.decoder.stream_end ≡ stream_end.Going) (sym c.self.view_is) c.requires.going in
    let left = c.give_up.new.self in
    let is : left ≡ kept_bytes new.decoder.stream_end new.there = c.give_up.ensures ∙ ap (λ e. kept_bytes e new.there) c.stream_end.ensures in
    subst (λ (x : Pushed). TurnGives (Some (answers.Fault c.in-Some-Fault.fault)) x (record new { there = left })) c.self.view_is
    (turn_left (Some (answers.Fault c.in-Some-Fault.fault)) old new left going is
    (turn_fault old new c.in-Some-Fault.fault (subst (λ (n : Next). StepGives (Some n) old.decoder new.decoder (Some old.there) (Some new.there)) c.in-Some-Fault.field-0-is c.in-Some-Fault.ensures.gives, subst (λ (n : Next). IsThere old.decoder.units (Some old.there) → StepGivesBefore (Some n) old.decoder new.decoder (Some old.there) (Some new.there)) c.in-Some-Fault.field-0-is c.in-Some-Fault.ensures.before_more, c.self.invariant.0, there, refl) (ap (λ (x : Pushed). x.shown) c.self.view_is ∙ c.requires.none_shown)))

pub returns-in-None-clause-takes : goal.returns-in-None-clause-takes
returns-in-None-clause-takes c =
    let old : Pushed = record { decoder = c.self.inside.decoder; there = c.self.inside.queue; room = c.self.inside.room; is_finished = c.self.inside.is_finished; shown = c.self.inside.shown; format = c.self.inside.format } in
    let new : Pushed = record { decoder = c.step-step.new.self; there = c.step-step.new.source; room = c.self.inside.room; is_finished = c.self.inside.is_finished; shown = c.self.inside.shown; format = c.latest-self-inside.result } in
    let going = subst (λ (x : Pushed). x.decoder.stream_end ≡ stream_end.Going) (sym c.self.view_is) c.requires.going in
    let none_due = subst (λ (x : Pushed). x.decoder.due ≡ []) (sym c.self.view_is) c.requires.none_due in
    let left = c.give_up.new.self in
    let is : left ≡ kept_bytes new.decoder.stream_end new.there = c.give_up.ensures ∙ ap (λ e. kept_bytes e new.there) c.stream_end.ensures in
    subst (λ (x : Pushed). TakesUnits x (record new { there = left })) c.self.view_is
    (takes_left old new left is
    (takes_one _ old new going none_due c.self.invariant.0 (c.in-None.ensures.none_ahead c.self.invariant.0) c.self.invariant.2
    (c.latest-self-inside.ensures ∙ ap (λ o. latest o c.self.inside.format) c.sequence.ensures) c.in-None.ensures.at_most_one_unit))

pub returns-in-None-clause-silent : goal.returns-in-None-clause-silent
returns-in-None-clause-silent c none =
    let old : Pushed = record { decoder = c.self.inside.decoder; there = c.self.inside.queue; room = c.self.inside.room; is_finished = c.self.inside.is_finished; shown = c.self.inside.shown; format = c.self.inside.format } in
    let new : Pushed = record { decoder = c.step-step.new.self; there = c.step-step.new.source; room = c.self.inside.room; is_finished = c.self.inside.is_finished; shown = c.self.inside.shown; format = c.latest-self-inside.result } in
    let going = subst (λ (x : Pushed). x.decoder.stream_end ≡ stream_end.Going) (sym c.self.view_is) c.requires.going in
    let none_due = subst (λ (x : Pushed). x.decoder.due ≡ []) (sym c.self.view_is) c.requires.none_due in
    let left = c.give_up.new.self in
    let is : left ≡ kept_bytes new.decoder.stream_end new.there = c.give_up.ensures ∙ ap (λ e. kept_bytes e new.there) c.stream_end.ensures in
    subst (λ (x : Pushed). TakesSilently x (record new { there = left })) c.self.view_is
    (silent_left old new left is
    (silent_one old new going none_due c.self.invariant.0 (c.in-None.ensures.none_ahead c.self.invariant.0) c.self.invariant.2
    (c.latest-self-inside.ensures ∙ ap (λ o. latest o c.self.inside.format) c.sequence.ensures) c.in-None.ensures.at_most_one_unit))

pub returns-in-Some-Shown-clause-takes : goal.returns-in-Some-Shown-clause-takes
returns-in-Some-Shown-clause-takes c =
    let old : Pushed = record { decoder = c.self.inside.decoder; there = c.self.inside.queue; room = c.self.inside.room; is_finished = c.self.inside.is_finished; shown = c.self.inside.shown; format = c.self.inside.format } in
    let new : Pushed = record { decoder = c.step-step.new.self; there = c.step-step.new.source; room = c.self.inside.room; is_finished = c.self.inside.is_finished; shown = Some c.in-Some-Shown.picture; format = c.latest-self-inside.result } in
    let going = subst (λ (x : Pushed). x.decoder.stream_end ≡ stream_end.Going) (sym c.self.view_is) c.requires.going in
    let none_due = subst (λ (x : Pushed). x.decoder.due ≡ []) (sym c.self.view_is) c.requires.none_due in
    let left = c.give_up.new.self in
    let is : left ≡ kept_bytes new.decoder.stream_end new.there = c.give_up.ensures ∙ ap (λ e. kept_bytes e new.there) c.stream_end.ensures in
    subst (λ (x : Pushed). TakesUnits x (record new { there = left })) c.self.view_is
    (takes_left old new left is
    (takes_one _ old new going none_due c.self.invariant.0 (c.in-Some-Shown.ensures.none_ahead c.self.invariant.0) c.self.invariant.2
    (c.latest-self-inside.ensures ∙ ap (λ o. latest o c.self.inside.format) c.sequence.ensures) c.in-Some-Shown.ensures.at_most_one_unit))

pub returns-in-Some-End-clause-takes : goal.returns-in-Some-End-clause-takes
returns-in-Some-End-clause-takes c =
    let old : Pushed = record { decoder = c.self.inside.decoder; there = c.self.inside.queue; room = c.self.inside.room; is_finished = c.self.inside.is_finished; shown = c.self.inside.shown; format = c.self.inside.format } in
    let new : Pushed = record { decoder = c.step-step.new.self; there = c.step-step.new.source; room = c.self.inside.room; is_finished = c.self.inside.is_finished; shown = c.self.inside.shown; format = c.latest-self-inside.result } in
    let going = subst (λ (x : Pushed). x.decoder.stream_end ≡ stream_end.Going) (sym c.self.view_is) c.requires.going in
    let none_due = subst (λ (x : Pushed). x.decoder.due ≡ []) (sym c.self.view_is) c.requires.none_due in
    let left = c.give_up.new.self in
    let is : left ≡ kept_bytes new.decoder.stream_end new.there = c.give_up.ensures ∙ ap (λ e. kept_bytes e new.there) c.stream_end.ensures in
    subst (λ (x : Pushed). TakesUnits x (record new { there = left })) c.self.view_is
    (takes_left old new left is
    (takes_one _ old new going none_due c.self.invariant.0 (c.in-Some-End.ensures.none_ahead c.self.invariant.0) c.self.invariant.2
    (c.latest-self-inside.ensures ∙ ap (λ o. latest o c.self.inside.format) c.sequence.ensures) c.in-Some-End.ensures.at_most_one_unit))

pub returns-in-Some-Fault-clause-takes : goal.returns-in-Some-Fault-clause-takes
returns-in-Some-Fault-clause-takes c =
    let old : Pushed = record { decoder = c.self.inside.decoder; there = c.self.inside.queue; room = c.self.inside.room; is_finished = c.self.inside.is_finished; shown = c.self.inside.shown; format = c.self.inside.format } in
    let new : Pushed = record { decoder = c.step-step.new.self; there = c.step-step.new.source; room = c.self.inside.room; is_finished = c.self.inside.is_finished; shown = c.self.inside.shown; format = c.latest-self-inside.result } in
    let going = subst (λ (x : Pushed). x.decoder.stream_end ≡ stream_end.Going) (sym c.self.view_is) c.requires.going in
    let none_due = subst (λ (x : Pushed). x.decoder.due ≡ []) (sym c.self.view_is) c.requires.none_due in
    let left = c.give_up.new.self in
    let is : left ≡ kept_bytes new.decoder.stream_end new.there = c.give_up.ensures ∙ ap (λ e. kept_bytes e new.there) c.stream_end.ensures in
    subst (λ (x : Pushed). TakesUnits x (record new { there = left })) c.self.view_is
    (takes_left old new left is
    (takes_one _ old new going none_due c.self.invariant.0 (c.in-Some-Fault.ensures.none_ahead c.self.invariant.0) c.self.invariant.2
    (c.latest-self-inside.ensures ∙ ap (λ o. latest o c.self.inside.format) c.sequence.ensures) c.in-Some-Fault.ensures.at_most_one_unit))

pub returns-in-Some-NoMemory-clause-takes : goal.returns-in-Some-NoMemory-clause-takes
returns-in-Some-NoMemory-clause-takes c =
    let old : Pushed = record { decoder = c.self.inside.decoder; there = c.self.inside.queue; room = c.self.inside.room; is_finished = c.self.inside.is_finished; shown = c.self.inside.shown; format = c.self.inside.format } in
    let new : Pushed = record { decoder = c.step-step.new.self; there = c.step-step.new.source; room = c.self.inside.room; is_finished = c.self.inside.is_finished; shown = c.self.inside.shown; format = c.latest-self-inside.result } in
    let going = subst (λ (x : Pushed). x.decoder.stream_end ≡ stream_end.Going) (sym c.self.view_is) c.requires.going in
    let none_due = subst (λ (x : Pushed). x.decoder.due ≡ []) (sym c.self.view_is) c.requires.none_due in
    let left = c.give_up.new.self in
    let is : left ≡ kept_bytes new.decoder.stream_end new.there = c.give_up.ensures ∙ ap (λ e. kept_bytes e new.there) c.stream_end.ensures in
    subst (λ (x : Pushed). TakesUnits x (record new { there = left })) c.self.view_is
    (takes_left old new left is
    (takes_one _ old new going none_due c.self.invariant.0 (c.in-Some-NoMemory.ensures.none_ahead c.self.invariant.0) c.self.invariant.2
    (c.latest-self-inside.ensures ∙ ap (λ o. latest o c.self.inside.format) c.sequence.ensures) c.in-Some-NoMemory.ensures.at_most_one_unit))
