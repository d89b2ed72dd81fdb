-- A check goes through a stream as a decoder does, but for the pictures: what is refused is the same.
use Rattle.std.proofs.Common.{◌≡◌, ℕ, ◌==◌, ◌+◌, if◌then◌else◌, true, false, List, [], Option, None, Some, Result, Ok, Err, refl, sym, ap, subst}
use Rattle.std.specs.Prelude.{IfSome}
use Rattle.std.specs.Io.KnownBytes.{prepend_known}
use Rattle.dirac_common.specs.declared.codes.TheConstants.{END_OF_SEQUENCE, SEQUENCE_HEADER}
use Rattle.dirac_common.specs.declared.faults.Cause.TheVariants.{SequenceChanged}
use Rattle.dirac_common.specs.declared.faults.Fault.{Fault}
use Rattle.dirac_common.specs.declared.faults.Refusal.{Refusal}
use Rattle.dirac_units.specs.declared.unit.Unit.{Unit as TheUnit}
use Rattle.dirac_units.specs.declared.unit_place.UnitPlace.{UnitPlace}
use Rattle.dirac_units.specs.Cut.{EachHasACut, front_of}
use Rattle.dirac_units.specs.Info.{fields_are_read}
use Rattle.dirac_units.specs.Progress.{Ends, GivesUnit, IsFirstUnit, CuttingProgress}
use Rattle.dirac_sequence_header.specs.declared.sequence.Sequence.{Sequence}
use Rattle.dirac_sequence_header.specs.Grammar.{sequence_read}
use Rattle.dirac_picture.specs.declared.coded.CodedPicture.{CodedPicture}
use Rattle.dirac_picture.specs.Grammar.{picture_read}
use Rattle.dirac_content.specs.declared.opened.Opened.{Opened}
use Rattle.dirac_content.specs.Content.{rebuilt}
use Rattle.dirac_content.specs.StreamState.{StreamState, StreamStep, content, ended, header_step, is_same, shown_or_refused, opening, passed, picture_step, staying, unit_step}
use Rattle.dirac_content.specs.Shown.{IsShown, Outcome, Shows, ends_with, with_front}
use Rattle.dirac_content.proofs.Passing.{fault_of, told_end, told_refusal, told_unit}
use Rattle.dirac_edit.specs.Course.{content_checked, listed_by, picture_checked, state_of, unit_checked}
use Rattle.dirac_edit.specs.Open.{numbered}
use Rattle.dirac_edit.proofs.Lookups.{numbers, same_committed, same_read}

-- the same sequence is open, and the same numbers are listed
pub record IsAlike (a b : StreamState) : Type 0 where
  pub opened : a.opened ≡ b.opened
  pub listed : numbers a.list ≡ numbers b.list

-- both are refused alike, or both go on alike
abbrev pub IsFollowed : Result StreamStep Refusal → Result StreamState Refusal → Type 0
IsFollowed (Ok m) (Ok course) = IsAlike m.state course
IsFollowed (Ok m) (Err refusal) = ⊥
IsFollowed (Err refusal) (Ok course) = ⊥
IsFollowed (Err refusal) (Err refusal') = refusal ≡ refusal'

-- ---- one unit

opening_followed : (a b : StreamState) (payload : List ℕ) (r : Result Sequence Refusal) → IsAlike a b → IsFollowed (opening a payload r) (state_of (opening b payload r))
opening_followed a b payload (Ok s) alike = record { opened = refl; listed = alike.listed }
opening_followed a b payload (Err refusal) alike = refl

header_followed : (a b : StreamState) (o : Option Opened) (payload : List ℕ) → IsAlike a b → IsFollowed (header_step a o payload) (state_of (header_step b o payload))
header_followed a b None payload alike = opening_followed a b payload (sequence_read payload) alike
header_followed a b (Some o) payload alike =
    let changed : Refusal = record { at = 0; cause = SequenceChanged } in
    elim (is_same payload o.header) as (λ t. IsFollowed (if t then Ok (staying a) else Err changed) (state_of (if t then Ok (staying b) else Err changed))) [
      | true ↦ alike
      | false ↦ refl
    ]

read_followed : (a b : StreamState) (o : Opened) (r : Result CodedPicture Refusal) → IsAlike a b → IsFollowed (shown_or_refused a o r) (listed_by b r)
read_followed a b o (Ok coded) alike = record {
  opened = alike.opened;
  listed = same_committed a.list b.list coded.header.retire coded.code (rebuilt o.sequence a.list coded) (numbered coded.header.number) alike.listed refl;
}
read_followed a b o (Err refusal) alike = refl

picture_followed : (a b : StreamState) (o : Option Opened) (code : ℕ) (payload : List ℕ) → IsAlike a b → IsFollowed (picture_step a o code payload) (picture_checked b o code payload)
picture_followed a b None code payload alike = refl
picture_followed a b (Some o) code payload alike =
    subst (λ (r : Result CodedPicture Refusal). IsFollowed (shown_or_refused a o (picture_read code o.sequence a.list payload)) (listed_by b r))
    (same_read code o.sequence a.list b.list payload alike.listed)
    (read_followed a b o (picture_read code o.sequence a.list payload) alike)

content_followed : (a b : StreamState) (code : ℕ) (payload : List ℕ) → IsAlike a b → IsFollowed (content a code payload) (content_checked b code payload)
content_followed a b code payload alike =
    subst (λ (o : Option Opened). IsFollowed (content a code payload) (if code == SEQUENCE_HEADER then state_of (header_step b o payload) else picture_checked b o code payload)) alike.opened
    (elim (code == SEQUENCE_HEADER) as (λ t. IsFollowed (if t then header_step a a.opened payload else picture_step a a.opened code payload) (if t then state_of (header_step b a.opened payload) else picture_checked b a.opened code payload)) [
      | true ↦ header_followed a b a.opened payload alike
      | false ↦ picture_followed a b a.opened code payload alike
    ])

passed_followed : (a b : StreamState) (code : ℕ) → IsAlike a b → IsAlike (passed a code).state (passed b code).state
passed_followed a b code alike =
    elim (code == END_OF_SEQUENCE) as (λ t. IsAlike (if t then ended a else staying a).state (if t then ended b else staying b).state) [
      | true ↦ record { opened = refl; listed = refl }
      | false ↦ alike
    ]

-- what becomes of a unit doesn't depend on the samples of the listed pictures
pub unit_followed : (a b : StreamState) (code : ℕ) (payload : List ℕ) → IsAlike a b → IsFollowed (unit_step a code payload) (unit_checked b code payload)
unfolding unit_step unit_checked
unit_followed a b code payload alike =
    elim (fields_are_read code) as (λ t. IsFollowed (if t then content a code payload else Ok (passed a code)) (if t then content_checked b code payload else Ok (passed b code).state)) [
      | true ↦ content_followed a b code payload alike
      | false ↦ passed_followed a b code alike
    ]

-- a step that is followed by one that goes on
record GoesOn (read : Result StreamStep Refusal) (course : StreamState) : Type 0 where
  step : StreamStep
  is : read ≡ Ok step
  alike : IsAlike step.state course

goes_on_by : (read : Result StreamStep Refusal) (course : StreamState) → IsFollowed read (Ok course) → GoesOn read course
goes_on_by (Ok m) course followed = record { step = m; is = refl; alike = followed }
goes_on_by (Err refusal) course followed = absurd followed

goes_on : (read : Result StreamStep Refusal) (checked : Result StreamState Refusal) (course : StreamState) → checked ≡ Ok course → IsFollowed read checked → GoesOn read course
goes_on read checked course is followed = goes_on_by read course (subst (λ (c : Result StreamState Refusal). IsFollowed read c) is followed)

-- and one that is followed by a refusal
refused_by : (read : Result StreamStep Refusal) (refusal : Refusal) → IsFollowed read (Err refusal) → read ≡ Err refusal
refused_by (Ok m) refusal followed = absurd followed
refused_by (Err refusal') refusal followed = ap Err followed

refused : (read : Result StreamStep Refusal) (checked : Result StreamState Refusal) (refusal : Refusal) → checked ≡ Err refusal → IsFollowed read checked → read ≡ Err refusal
refused read checked refusal is followed = refused_by read refusal (subst (λ (c : Result StreamState Refusal). IsFollowed read c) is followed)

-- ---- a stream

-- what these bytes show has this end
abbrev pub EndsWith : List ℕ → Option Fault → Type 0
EndsWith bytes end = (o : Outcome) × IsShown bytes o × (o.end ≡ end)

-- a stream was gone through up to this place, where these bytes are left: it ends as they do
pub record Reaches (bytes : List ℕ) (unit_place : UnitPlace) (rest : List ℕ) (course : StreamState) : Type 0 where
  pub state : StreamState
  pub alike : IsAlike state course
  pub ends : (o : Outcome) → Shows state unit_place rest o → EndsWith bytes o.end

-- where nothing was taken beyond the units given
front_told : (ahead ahead' : List ℕ) (held held' : Option (List ℕ)) (unit : TheUnit) (unit_place : UnitPlace) → ahead ≡ [] → ahead' ≡ [] → IfSome (prepend_known ahead held) (λ bytes. IsFirstUnit true unit unit_place bytes (prepend_known ahead' held'))
    → IfSome (prepend_known [] held) (λ bytes. IsFirstUnit true unit unit_place bytes (prepend_known [] held'))
front_told ahead ahead' held held' unit unit_place none none' told =
    subst (λ (xs : List ℕ). IfSome (prepend_known xs held) (λ bytes. IsFirstUnit true unit unit_place bytes (prepend_known [] held'))) none
    (subst (λ (ys : List ℕ). IfSome (prepend_known ahead held) (λ bytes. IsFirstUnit true unit unit_place bytes (prepend_known ys held'))) none' told)

-- one unit more
pub reached_next : (bytes : List ℕ) (unit : TheUnit) (old new : CuttingProgress) (rest rest' : List ℕ) (course course' : StreamState) → Reaches bytes old.unit_place rest course → old.ahead ≡ [] → new.ahead ≡ []
    → GivesUnit true unit old new (Some rest) (Some rest') → unit_checked course unit.info.code unit.payload ≡ Ok course' → Reaches bytes new.unit_place rest' course'
reached_next bytes unit old new rest rest' course course' r none none' gives is =
    let on : GoesOn (unit_step r.state unit.info.code unit.payload) course' =
    goes_on (unit_step r.state unit.info.code unit.payload) (unit_checked course unit.info.code unit.payload) course' is (unit_followed r.state course unit.info.code unit.payload r.alike) in
    record {
      state = on.step.state;
      alike = on.alike;
      ends = λ o shows.
          r.ends (with_front on.step.gone o)
          (told_unit (Some rest) (Some rest') unit old.unit_place new.unit_place r.state on.step o
          (front_told old.ahead new.ahead (Some rest) (Some rest') unit old.unit_place none none' gives.told) gives.next on.is shows);
    }

-- a unit that is refused
pub reached_fault : (bytes : List ℕ) (unit : TheUnit) (old new : CuttingProgress) (rest rest' : List ℕ) (course : StreamState) (refusal : Refusal) → EachHasACut → Reaches bytes old.unit_place rest course → old.ahead ≡ [] → new.ahead ≡ []
    → GivesUnit true unit old new (Some rest) (Some rest') → unit_checked course unit.info.code unit.payload ≡ Err refusal
    → EndsWith bytes (Some (record { unit = unit.index; at = unit.at + refusal.at; cause = refusal.cause }))
reached_fault bytes unit old new rest rest' course refusal cuts r none none' gives is =
    let read : unit_step r.state unit.info.code unit.payload ≡ Err refusal =
    refused (unit_step r.state unit.info.code unit.payload) (unit_checked course unit.info.code unit.payload) refusal is (unit_followed r.state course unit.info.code unit.payload r.alike) in
    let fault : ℕ → ℕ → Option Fault = λ index at. Some (record { unit = index; at = at + refusal.at; cause = refusal.cause }) in
    let here : EndsWith bytes (Some (fault_of old.unit_place refusal)) =
    r.ends (ends_with r.state (Some (fault_of old.unit_place refusal)))
    (told_refusal (Some rest) (Some rest') unit old.unit_place r.state refusal cuts
    (front_told old.ahead new.ahead (Some rest) (Some rest') unit old.unit_place none none' gives.told) read) in
    subst (λ (i : ℕ). EndsWith bytes (fault i unit.at)) (sym gives.index)
    (subst (λ (a : ℕ). EndsWith bytes (fault old.unit_place.index a)) (sym gives.at) here)

-- the end, lawful or a fault of the cutting
pub reached_end : (bytes : List ℕ) (old : CuttingProgress) (rest : List ℕ) (held' : Option (List ℕ)) (course : StreamState) (end : Option Fault) → Reaches bytes old.unit_place rest course → old.ahead ≡ [] → Ends old (Some rest) held' end
    → EndsWith bytes end
reached_end bytes old rest held' course end r none ends =
    r.ends (ends_with r.state end)
    (told_end (Some rest) old.unit_place r.state end
    (subst (λ (xs : List ℕ). IfSome (prepend_known xs (Some rest)) (λ known. front_of old.unit_place known ≡ Err end)) none ends.told))
