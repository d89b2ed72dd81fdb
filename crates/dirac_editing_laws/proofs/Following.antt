-- One stream behind another: it is cut into the units of both, and shows the pictures of both.
use Rattle.std.proofs.Common.{◌≡◌, ◌==◌, ◌≤◌, ◌-◌, ◌<◌, ◌^◌, if◌then◌else◌, Bool, true, false, ℕ, List, [], ◌∷◌, ◌++◌, length, take, drop, Option, None, Some, Result, Ok, Err, nat_lt, inl, inr, refl, sym, ◌∙◌, ap, subst, arith, append_assoc, length-drop}
use Rattle.std.specs.Prelude.{slice_range}
use Rattle.std.proofs.lemmas.Bool.{eqb-true}
use Rattle.std.proofs.lemmas.List.{drop-append-le, take-append-le}
use Rattle.dirac_common.specs.declared.faults.Cause.TheVariants.{MissingEnd, SequenceChanged, Truncated}
use Rattle.dirac_common.specs.declared.faults.Fault.{Fault}
use Rattle.dirac_common.specs.declared.faults.Refusal.{Refusal}
use Rattle.dirac_common.specs.declared.picture.Picture.{Picture}
use Rattle.dirac_units.specs.declared.info.ParseInfo.{ParseInfo}
use Rattle.dirac_units.specs.declared.unit_place.UnitPlace.{UnitPlace}
use Rattle.dirac_units.specs.Cut.{IsCut, UnitText, after, fault_at, front_of, first_unit_place, unit_front}
use Rattle.dirac_units.specs.Info.{fields_are_read, info_read, span_of}
use Rattle.dirac_units.proofs.Fronts.{chosen, front_is, front_more, front_whole}
use Rattle.dirac_sequence_header.specs.declared.sequence.Sequence.{Sequence}
use Rattle.dirac_sequence_header.specs.Grammar.{sequence_read}
use Rattle.dirac_refs.specs.declared.waiting.Waiting.{Waiting}
use Rattle.dirac_refs.specs.Delivery.{flushed}
use Rattle.dirac_picture.specs.declared.coded.CodedPicture.{CodedPicture}
use Rattle.dirac_picture.specs.Grammar.{picture_read}
use Rattle.dirac_plan_laws.proofs.Each.{each_append}
use Rattle.dirac_content.specs.declared.opened.Opened.{Opened}
use Rattle.dirac_content.specs.Content.{rebuilt}
use Rattle.dirac_content.specs.Sequences.{IsBetween}
use Rattle.dirac_content.specs.Shown.{Outcome, follows, outcome}
use Rattle.dirac_content.specs.StreamState.{StreamState, StreamStep, stream_begun, content, ended, header_step, is_same, shown_or_refused, opening, passed, picture_step, shows, staying, unit_step}
use Rattle.dirac_content.proofs.Flushing.{end_moves}
use Rattle.dirac_encode_laws.proofs.Cutting.{nothing_left}
use Rattle.dirac_encode_laws.proofs.Showing.{outcome_more}
use Rattle.dirac_edit_laws.proofs.Showing.{Shows}
use Rattle.dirac_edit_laws.proofs.Walking.{closed_state}
use Rattle.dirac_editing_laws.specs.Editing.{StreamsFollow, shown_by}

-- ---- bytes

-- the end of a stream: no byte is left behind an end unit
record IsAtEnd (p : UnitPlace) (bytes : List ℕ) : Type 0 where
  pub none : bytes ≡ []
  pub closed : p.closed ≡ true

no_unit : (p : UnitPlace) (bytes : List ℕ) (r : Result ParseInfo Refusal) → unit_front p bytes r ≡ Err None → ⊥
no_unit p bytes (Err refusal) is = cc
no_unit p bytes (Ok info) is =
    elim (chosen (nat_lt (length bytes) (span_of info)) (Err (Some (fault_at p (length bytes) Truncated))) (Ok info) (Err None) is) [
      | inl e ↦ let bad = e.1 in cc
      | inr e ↦ let bad = e.1 in cc
    ]

empty : (bytes : List ℕ) → length bytes ≡ 0 → bytes ≡ []
empty [] is = refl
empty (b ∷ bytes) is = absurd (omega (arith, is))

-- the end of a place, by whether it is closed
abbrev end_at : UnitPlace → Bool → Result ParseInfo (Option Fault)
end_at p b = Err (if b then None else Some (fault_at p 0 MissingEnd))

shut : (p : UnitPlace) (b : Bool) → p.closed ≡ b → end_at p b ≡ Err None → p.closed ≡ true
shut p true e is = e
shut p false e is = absurd cc

at_end : (p : UnitPlace) (bytes : List ℕ) → front_of p bytes ≡ Err None → IsAtEnd p bytes
at_end p bytes is =
    let few : Result ParseInfo (Option Fault) = Err (Some (fault_at p (length bytes) Truncated)) in
    let whole = unit_front p bytes (info_read (take 13 bytes)) in
    elim (chosen (length bytes == 0) (end_at p p.closed) (if nat_lt (length bytes) 13 then few else whole) (Err None) is) [
      | inl e ↦ record { none = empty bytes (eqb-true (length bytes) 0 e.0); closed = shut p p.closed refl e.1 }
      | inr e ↦ elim (chosen (nat_lt (length bytes) 13) few whole (Err None) e.1) [
        | inl f ↦ absurd (let bad = f.1 in cc)
        | inr f ↦ absurd (no_unit p bytes (info_read (take 13 bytes)) f.1)
      ]
    ]

front_elsewhere : (p q : UnitPlace) (bytes : List ℕ) (info : ParseInfo) → front_of p bytes ≡ Ok info → front_of q bytes ≡ Ok info
front_elsewhere p q bytes info is =
    let whole = front_whole p bytes info is in
    front_is q bytes info whole.0 whole.1 whole.2

-- a cut holds from each place that is closed where this one is
cut_from : (units : List UnitText) (p q : UnitPlace) (bytes : List ℕ) → q.closed ≡ p.closed → IsCut p bytes units None → IsCut q bytes units None
cut_from [] p q bytes same is =
    let e = at_end p bytes is in
    subst (λ (l : List ℕ). IsCut q l [] None) (sym e.none) (nothing_left q (same ∙ e.closed))
cut_from (u ∷ units) p q bytes same is = (
  front_elsewhere p q bytes u.info is.0,
  is.1,
  cut_from units (after p u.info) (after q u.info) (drop (span_of u.info) bytes) refl is.2,
)

-- the cut of a stream, behind an end unit
cut_behind : (units : List UnitText) (q : UnitPlace) (bytes : List ℕ) → IsCut first_unit_place bytes units None → IsCut q bytes units None
cut_behind [] q bytes is = absurd (let open_still = (at_end first_unit_place bytes is).closed in cc)
cut_behind (u ∷ units) q bytes is = (
  front_elsewhere first_unit_place q bytes u.info is.0,
  is.1,
  cut_from units (after first_unit_place u.info) (after q u.info) (drop (span_of u.info) bytes) refl is.2,
)

range_front : (bytes more : List ℕ) (span : ℕ) → 13 ≤ length bytes → span ≤ length bytes → slice_range bytes 13 span ≡ slice_range (bytes ++ more) 13 span
range_front bytes more span some within =
    sym (ap (take (span - 13)) (drop-append-le 13 bytes more some)
    ∙ take-append-le (span - 13) (drop 13 bytes) more (omega (arith, length-drop 13 bytes, within)))

pub cut_append : (units : List UnitText) (p : UnitPlace) (bytes more : List ℕ) (next : List UnitText) → IsCut p bytes units None → IsCut first_unit_place more next None → IsCut p (bytes ++ more) (units ++ next) None
cut_append [] p bytes more next is later =
    subst (λ (l : List ℕ). IsCut p (l ++ more) next None) (sym (at_end p bytes is).none) (cut_behind next p more later)
cut_append (u ∷ units) p bytes more next is later =
    let whole = front_whole p bytes u.info is.0 in
    let span = span_of u.info in (
      front_more p bytes more u.info is.0,
      is.1 ∙ range_front bytes more span whole.0 whole.2,
      subst (λ (l : List ℕ). IsCut (after p u.info) l (units ++ next) None) (sym (drop-append-le span bytes more whole.2))
          (cut_append units (after p u.info) (drop span bytes) more next is.2 later),
    )

-- ---- content

-- a course whose lists were longer before
abbrev with_most : ℕ → StreamState → StreamState
with_most n state = record { opened = state.opened; first = state.first; list = state.list; waiting = state.waiting; most = n }

-- a step
abbrev ok : StreamStep → Result StreamStep Refusal
ok m = Ok m

-- the same step, but for the greatest length of a list
abbrev IsStep : Result StreamStep Refusal → StreamStep → ℕ → Type 0
IsStep r m n = r ≡ ok (record { state = with_most n m.state; gone = m.gone })

abbrev AsBefore : Result StreamStep Refusal → Result StreamStep Refusal → Type 0
AsBefore r r' = (m : StreamStep) → r ≡ ok m → (n : ℕ) × IsStep r' m n

ok_as_before : (m m' : StreamStep) (n : ℕ) → m' ≡ record { state = with_most n m.state; gone = m.gone } → AsBefore (ok m) (ok m')
ok_as_before m m' n same x is =
    let e : m ≡ x = cc in
    subst (λ (y : StreamStep). (k : ℕ) × IsStep (ok m') y k) e (n, ap ok same)

err_as_before : (e : Refusal) (r : Result StreamStep Refusal) → AsBefore (Err e) r
err_as_before e r m is = absurd cc

opening_as : (state : StreamState) (n : ℕ) (payload : List ℕ) (r : Result Sequence Refusal) → AsBefore (opening state payload r) (opening (with_most n state) payload r)
opening_as state n payload (Ok s) =
    let o : Opened = record { header = payload; sequence = s } in
    ok_as_before (staying (record state { opened = Some o; first = None })) (staying (record (with_most n state) { opened = Some o; first = None })) n refl
opening_as state n payload (Err refusal) = err_as_before _ (opening (with_most n state) payload (Err refusal))

header_as : (state : StreamState) (n : ℕ) (o : Option Opened) (payload : List ℕ) → AsBefore (header_step state o payload) (header_step (with_most n state) o payload)
header_as state n None payload = opening_as state n payload (sequence_read payload)
header_as state n (Some o) payload =
    elim (is_same payload o.header) as (λ b. AsBefore (if b then Ok (staying state) else Err (record { at = 0; cause = SequenceChanged })) (if b then Ok (staying (with_most n state)) else Err (record { at = 0; cause = SequenceChanged }))) [
      | true ↦ ok_as_before (staying state) (staying (with_most n state)) n refl
      | false ↦ err_as_before (record { at = 0; cause = SequenceChanged }) (Err (record { at = 0; cause = SequenceChanged }))
    ]

made_as : (state : StreamState) (n : ℕ) (o : Opened) (r : Result CodedPicture Refusal) → AsBefore (shown_or_refused state o r) (shown_or_refused (with_most n state) o r)
made_as state n o (Ok coded) =
    let p = rebuilt o.sequence state.list coded in
    ok_as_before (shows state coded p) (shows (with_most n state) coded p) (shows (with_most n state) coded p).state.most refl
made_as state n o (Err refusal) = err_as_before _ (shown_or_refused (with_most n state) o (Err refusal))

picture_as : (state : StreamState) (n : ℕ) (o : Option Opened) (code : ℕ) (payload : List ℕ) → AsBefore (picture_step state o code payload) (picture_step (with_most n state) o code payload)
picture_as state n None code payload = err_as_before _ (picture_step (with_most n state) None code payload)
picture_as state n (Some o) code payload = made_as state n o (picture_read code o.sequence state.list payload)

content_as : (state : StreamState) (n code : ℕ) (payload : List ℕ) → AsBefore (content state code payload) (content (with_most n state) code payload)
content_as state n code payload =
    elim (code == 0x00) as (λ b. AsBefore (if b then header_step state state.opened payload else picture_step state state.opened code payload) (if b then header_step (with_most n state) state.opened payload else picture_step (with_most n state) state.opened code payload)) [
      | true ↦ header_as state n state.opened payload
      | false ↦ picture_as state n state.opened code payload
    ]

passed_as : (state : StreamState) (n code : ℕ) → AsBefore (Ok (passed state code)) (Ok (passed (with_most n state) code))
passed_as state n code =
    elim (code == 0x10) as (λ b. AsBefore (Ok (if b then ended state else staying state)) (Ok (if b then ended (with_most n state) else staying (with_most n state)))) [
      | true ↦ ok_as_before (ended state) (ended (with_most n state)) n refl
      | false ↦ ok_as_before (staying state) (staying (with_most n state)) n refl
    ]

step_as : (state : StreamState) (n code : ℕ) (payload : List ℕ) → AsBefore (unit_step state code payload) (unit_step (with_most n state) code payload)
unfolding unit_step
step_as state n code payload =
    elim (fields_are_read code) as (λ b. AsBefore (if b then content state code payload else Ok (passed state code)) (if b then content (with_most n state) code payload else Ok (passed (with_most n state) code))) [
      | true ↦ content_as state n code payload
      | false ↦ passed_as state n code
    ]

-- a unit whose content was taken
record Taken (state : StreamState) (p : UnitPlace) (u : UnitText) (units : List UnitText) : Type 0 where
  pub step : StreamStep
  pub is : unit_step state u.info.code u.payload ≡ Ok step
  pub none : (outcome step.state (after p u.info) units None).end ≡ None

taken : (state : StreamState) (p : UnitPlace) (u : UnitText) (units : List UnitText) → (outcome state p (u ∷ units) None).end ≡ None → Taken state p u units
unfolding outcome
taken state p u units none =
    let next : StreamState → Outcome = λ later. outcome later (after p u.info) units None in
    elim (unit_step state u.info.code u.payload) as (λ r. unit_step state u.info.code u.payload ≡ r → (follows state p next r).end ≡ None → Taken state p u units) [
      | Err refusal ↦ λ e bad. absurd cc
      | Ok m ↦ λ e good. record { step = m; is = e; none = good }
    ] refl none

-- what units show doesn't depend on the place, nor on how long lists were before
pub shown_elsewhere : (units : List UnitText) (state : StreamState) (n : ℕ) (p q : UnitPlace) → (outcome state p units None).end ≡ None → Shows (outcome (with_most n state) q units None) (outcome state p units None).shown
unfolding outcome
shown_elsewhere [] state n p q none = record { shown = refl; none = refl }
shown_elsewhere (u ∷ units) state n p q none =
    let t = taken state p u units none in
    let m = t.step in
    let s = step_as state n u.info.code u.payload m t.is in
    let m' : StreamStep = record { state = with_most s.0 m.state; gone = m.gone } in
    let rest = shown_elsewhere units m.state s.0 (after p u.info) (after q u.info) t.none in
    let here = outcome_more state p u units m t.is in
    let there = outcome_more (with_most n state) q u units m' s.1 in
    record {
      shown = ap (λ (o : Outcome). o.shown) there ∙ ap (λ (ps : List Picture). m.gone ++ ps) rest.shown ∙ sym (ap (λ (o : Outcome). o.shown) here);
      none = ap (λ (o : Outcome). o.end) there ∙ rest.none;
    }

-- between sequences it is as at the beginning
between_is : (state : StreamState) → IsBetween state → with_most state.most stream_begun ≡ state
between_is state i =
    let make : Option Opened → Option ℕ → List Picture → List Waiting → StreamState = λ o f l w. record { opened = o; first = f; list = l; waiting = w; most = state.most } in
    sym (ap (λ o. make o state.first state.list state.waiting) i.opened ∙ ap (λ f. make None f state.list state.waiting) i.first
    ∙ ap (λ l. make None None l state.waiting) i.list ∙ ap (λ w. make None None [] w) i.waiting)

-- behind an end unit the course is between sequences
ends : (state : StreamState) (u : UnitText) (m : StreamStep) → unit_step state u.info.code u.payload ≡ Ok m → (u.info.code == 0x10) ≡ true → IsBetween m.state
ends state u m is end =
    let moves = end_moves state u.info.code u.payload (eqb-true u.info.code 0x10 end) in
    let same : ended state ≡ m = (let e = sym moves ∙ is in cc) in
    subst (λ (x : StreamStep). IsBetween x.state) same (closed_state state)

pub shown_behind : (units : List UnitText) (state : StreamState) (p : UnitPlace) (bytes : List ℕ) (next : List UnitText) → IsCut p bytes units None → (p.closed ≡ true → IsBetween state) → (outcome state p units None).end ≡ None
    → (outcome stream_begun first_unit_place next None).end ≡ None → Shows (outcome state p (units ++ next) None) ((outcome state p units None).shown ++ shown_by next)
unfolding outcome
shown_behind [] state p bytes next cut closed none later =
    let i = closed (at_end p bytes cut).closed in
    let there : Shows (outcome state p next None) (shown_by next) = subst (λ (x : StreamState). Shows (outcome x p next None) (shown_by next)) (between_is state i) (shown_elsewhere next stream_begun state.most first_unit_place p later) in
    record {
      shown = there.shown ∙ ap (λ (ws : List Waiting). flushed ws ++ shown_by next) (sym i.waiting);
      none = there.none;
    }
shown_behind (u ∷ units) state p bytes next cut closed none later =
    let t = taken state p u units none in
    let m = t.step in
    let place = after p u.info in
    let rest = shown_behind units m.state place (drop (span_of u.info) bytes) next cut.2 (ends state u m t.is) t.none later in
    let here = outcome_more state p u units m t.is in
    let there = outcome_more state p u (units ++ next) m t.is in
    record {
      shown =
          ap (λ (o : Outcome). o.shown) there ∙ ap (λ (ps : List Picture). m.gone ++ ps) rest.shown
          ∙ sym (append_assoc m.gone (outcome m.state place units None).shown (shown_by next))
          ∙ ap (λ (o : Outcome). o.shown ++ shown_by next) (sym here);
      none = ap (λ (o : Outcome). o.end) there ∙ rest.none;
    }

-- the law
pub streams_behind : StreamsFollow
streams_behind bytes bytes' units units' f f' =
    let shows = shown_behind units stream_begun first_unit_place bytes units' f.cut (λ bad. absurd (let e : false ≡ true = bad in cc)) f.none f'.none in (
      record {
        below = each_append (λ b. b < 2 ^ 8) bytes bytes' f.below f'.below;
        cut = cut_append units first_unit_place bytes bytes' units' f.cut f'.cut;
        none = shows.none;
      },
      shows.shown,
    )
