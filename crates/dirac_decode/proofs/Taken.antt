-- What the content of a unit brings, by its kind.
use Rattle.std.proofs.Common.{◌≡◌, ◌∙◌, ℕ, ◌+◌, ◌==◌, true, false, List, length, Result, Ok, Err, refl, sym, subst, eq-eqb}
use Rattle.std.proofs.lemmas.Bool.{cond-false, cond-true, ne_eqb}
use Rattle.dirac_common.specs.declared.codes.TheConstants.{SEQUENCE_HEADER}
use Rattle.dirac_common.specs.declared.faults.Fault.{Fault}
use Rattle.dirac_common.specs.declared.faults.Refusal.{Refusal}
use Rattle.dirac_common.specs.declared.faults.Stop.{Stop}
use Rattle.dirac_common.specs.declared.faults.Stop.TheVariants as stop
use Rattle.dirac_units.specs.declared.unit.Unit.{Unit}
use Rattle.dirac_units.specs.Info.{fields_are_read}
use Rattle.dirac_content.specs.StreamState.{StreamState, StreamStep, header_step, passed, picture_step, unit_step}
use Rattle.dirac_decode.specs.declared.step.Halt.TheVariants as halt
use Rattle.dirac_decode.specs.declared.step.Step.{Step}
use Rattle.dirac_decode.specs.Advancing.{HasContent}
use Rattle.dirac_decode.specs.Taking.{IsTakenAs, TakesContent}

-- ---- the kinds of units

-- one without content that is read
passed_step : (state : StreamState) (code : ℕ) (payload : List ℕ) → fields_are_read code ≡ false → Ok (passed state code) ≡ unit_step state code payload
unfolding unit_step
passed_step state code payload is = sym (cond-false (fields_are_read code) _ (Ok (passed state code)) is)

header_is : (state : StreamState) (code : ℕ) (payload : List ℕ) → fields_are_read code ≡ true → code ≡ SEQUENCE_HEADER → header_step state state.opened payload ≡ unit_step state code payload
unfolding unit_step
header_is state code payload read is =
    sym (cond-true (fields_are_read code) _ (Ok (passed state code)) read
    ∙ cond-true (code == SEQUENCE_HEADER) (header_step state state.opened payload) (picture_step state state.opened code payload) (eq-eqb code SEQUENCE_HEADER is))

picture_is : (state : StreamState) (code : ℕ) (payload : List ℕ) → fields_are_read code ≡ true → (code ≡ SEQUENCE_HEADER → ⊥) → picture_step state state.opened code payload ≡ unit_step state code payload
unfolding unit_step
picture_is state code payload read not =
    sym (cond-true (fields_are_read code) _ (Ok (passed state code)) read
    ∙ cond-false (code == SEQUENCE_HEADER) (header_step state state.opened payload) (picture_step state state.opened code payload) (ne_eqb code SEQUENCE_HEADER not))

-- the same, by what is read
takes_as : (answer : Result Step Stop) (read read' : Result StreamStep Refusal) (bytes : ℕ) (old new : StreamState) → read ≡ read' → TakesContent answer read bytes old new → TakesContent answer read' bytes old new
takes_as answer read read' bytes old new is takes = subst (λ (r : Result StreamStep Refusal). TakesContent answer r bytes old new) is takes

-- a step has no place
takes_step : (s : Step) (read : Result StreamStep Refusal) (bytes bytes' : ℕ) (old new : StreamState) → TakesContent (Ok s) read bytes old new → TakesContent (Ok s) read bytes' old new
takes_step s read bytes bytes' old new takes = record {
  took = takes.took;
  place_inside = tt;
  one_more_at_most = takes.one_more_at_most;
  greatest_never_falls = takes.greatest_never_falls;
}

pub takes_passed : (s : Step) (code : ℕ) (payload : List ℕ) (old new : StreamState) → fields_are_read code ≡ false → TakesContent (Ok s) (Ok (passed old code)) 0 old new → TakesContent (Ok s) (unit_step old code payload) (length payload) old new
takes_passed s code payload old new is takes =
    takes_as (Ok s) (Ok (passed old code)) (unit_step old code payload) (length payload) old new (passed_step old code payload is)
    (takes_step s (Ok (passed old code)) 0 (length payload) old new takes)

pub takes_header : (answer : Result Step Stop) (code : ℕ) (payload : List ℕ) (old new : StreamState) → fields_are_read code ≡ true → code ≡ SEQUENCE_HEADER → TakesContent answer (header_step old old.opened payload) (length payload) old new
    → TakesContent answer (unit_step old code payload) (length payload) old new
takes_header answer code payload old new read is takes =
    takes_as answer (header_step old old.opened payload) (unit_step old code payload) (length payload) old new (header_is old code payload read is) takes

pub takes_picture : (answer : Result Step Stop) (code : ℕ) (payload payload' : List ℕ) (old new : StreamState) → fields_are_read code ≡ true → (code ≡ SEQUENCE_HEADER → ⊥) → payload' ≡ payload
    → TakesContent answer (picture_step old old.opened code payload') (length payload') old new → TakesContent answer (unit_step old code payload) (length payload) old new
takes_picture answer code payload payload' old new read not same takes =
    takes_as answer (picture_step old old.opened code payload) (unit_step old code payload) (length payload) old new (picture_is old code payload read not)
    (subst (λ (bs : List ℕ). TakesContent answer (picture_step old old.opened code bs) (length bs) old new) same takes)

-- ---- the content of a unit, where it brings a step or is refused

pub content_refused : (unit : Unit) (state state' : StreamState) (s : Stop) (refusal : Refusal) → s ≡ stop.Refused refusal → IsTakenAs (Err s) (unit_step state unit.info.code unit.payload) state state'
    → (let fault : Fault = record { unit = unit.index; at = unit.at + refusal.at; cause = refusal.cause } in HasContent (Err (halt.Fault fault)) unit state state')
content_refused unit state state' s refusal is took =
    let told : IsTakenAs (Err (stop.Refused refusal)) (unit_step state unit.info.code unit.payload) state state' = subst (λ (x : Stop). IsTakenAs (Err x) (unit_step state unit.info.code unit.payload) state state') is took in
    (record { refusal = refusal; content = told.0; same = refl }, told.1)

pub content_wanting : (unit : Unit) (state state' : StreamState) (s : Stop) → s ≡ stop.NoMemory → IsTakenAs (Err s) (unit_step state unit.info.code unit.payload) state state' → state' ≡ state
content_wanting unit state state' s is took = subst (λ (x : Stop). IsTakenAs (Err x) (unit_step state unit.info.code unit.payload) state state') is took
