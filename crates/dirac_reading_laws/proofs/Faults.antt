-- Each fault lies in the bytes that show it.
use Rattle.std.proofs.Common.{◌≡◌, ◌∙◌, ℕ, suc, ◌+◌, ◌-◌, ◌<◌, ◌≤◌, ◌==◌, nat_lt, List, [], ◌∷◌, length, take, drop, slice_range, refl, sym, ap, subst, arith, if◌then◌else◌, inl, inr, Option, None, Some, Result, Ok, Err}
use Rattle.std.specs.Prelude.{nat_eq}
use Rattle.std.specs.List.{starts_with}
use Rattle.std.proofs.lemmas.Bool.{ltb-false}
use Rattle.std.proofs.lemmas.List.{length-drop, length-take}
use Rattle.dirac_common.specs.declared.codes.TheConstants.{SEQUENCE_HEADER}
use Rattle.dirac_common.specs.declared.faults.Cause.{Cause}
use Rattle.dirac_common.specs.declared.faults.Cause.TheVariants.{BadPrefix, MissingEnd, OffsetMissing, SequenceChanged, Truncated}
use Rattle.dirac_common.specs.declared.faults.Fault.{Fault}
use Rattle.dirac_common.specs.declared.faults.Refusal.{Refusal}
use Rattle.dirac_units.specs.declared.info.ParseInfo.{ParseInfo}
use Rattle.dirac_units.specs.declared.info.UnitKind.{UnitKind}
use Rattle.dirac_units.specs.declared.unit_place.UnitPlace.{UnitPlace}
use Rattle.dirac_units.specs.Cut.{IsCut, UnitText, after, fault_at, front_of, first_unit_place, unit_front}
use Rattle.dirac_units.specs.Info.{fields_are_read, info_of, info_read, offset_is_lawful, prefix, refusal_of, refused_by, span_of, unit_kind, unless_refused}
use Rattle.dirac_units.proofs.Fronts.{chosen, front_whole}
use Rattle.dirac_sequence_header.specs.declared.sequence.Sequence.{Sequence}
use Rattle.dirac_sequence_header.specs.Grammar.{sequence_read}
use Rattle.dirac_picture.specs.declared.coded.CodedPicture.{CodedPicture}
use Rattle.dirac_picture.specs.Grammar.{picture_read}
use Rattle.dirac_content.specs.declared.opened.Opened.{Opened}
use Rattle.dirac_content.specs.Shown.{IsShown, Outcome, follows, outcome}
use Rattle.dirac_content.specs.StreamState.{StreamState, StreamStep, stream_begun, content, header_step, in_unit, is_same, shown_or_refused, opening, passed, picture_step, staying, unit_step}
use Rattle.dirac_reading_laws.specs.Places.{LiesIn, place_behind}
use Rattle.dirac_reading_laws.proofs.InPictures.{in_picture}
use Rattle.dirac_reading_laws.proofs.InSequences.{in_sequence_header}

same_err : {A B : Type 0} (r : Result A B) (a b : B) → r ≡ Err a → r ≡ Err b → a ≡ b
same_err r a b p q = cc

never : {A B P : Type 0} (r : Result A B) (a : A) (b : B) → r ≡ Ok a → r ≡ Err b → P
never r a b p q = absurd cc

same_some : (a b : Fault) (o : Option Fault) → o ≡ Some a → o ≡ Some b → a ≡ b
same_some a b o p q = cc

-- ---- what stands behind the last unit

-- a parse info is refused at one of its first six bytes
refused_info : (kind : Result UnitKind Cause) (next : ℕ) (info : ParseInfo) (o : Option Refusal) (r : Refusal) → refused_by kind next ≡ o → unless_refused info o ≡ Err r → r.at ≤ 5
refused_info kind next info None r is e = never (unless_refused info None) info r refl e
refused_info (Err cause) next info (Some q) r is e =
    let own : Refusal = record { at = 4; cause = cause } in
    let first : own ≡ q = cc in
    let same : q ≡ r = same_err (unless_refused info (Some q)) q r refl e in
    let at : own.at ≡ r.at = ap (λ (x : Refusal). x.at) (first ∙ same) in
    omega (arith, at)
refused_info (Ok kind) next info (Some q) r is e =
    let own : Refusal = record { at = 5; cause = OffsetMissing } in
    let none : Option Refusal = None in
    let same : q ≡ r = same_err (unless_refused info (Some q)) q r refl e in
    elim (chosen (offset_is_lawful kind next) none (Some own) (Some q) is) [
      | inl p ↦ absurd (let no : none ≡ Some q = p.1 in cc)
      | inr p ↦
          let first : own ≡ q = cc in
          let at : own.at ≡ r.at = ap (λ (x : Refusal). x.at) (first ∙ same) in
          omega (arith, at)
    ]

info_inside : (bytes : List ℕ) (r : Refusal) → info_read bytes ≡ Err r → r.at ≤ 5
info_inside bytes r e =
    let own : Refusal = record { at = 0; cause = BadPrefix } in
    elim (chosen (starts_with nat_eq bytes prefix) (unless_refused (info_of bytes) (refusal_of (info_of bytes))) (Err own) (Err r) e) [
      | inl p ↦ refused_info (unit_kind (info_of bytes).code) (info_of bytes).next (info_of bytes) (refusal_of (info_of bytes)) r refl p.1
      | inr p ↦
          let same : own ≡ r = same_err (info_read bytes) own r (e ∙ sym p.1) e in
          let at : own.at ≡ r.at = ap (λ (x : Refusal). x.at) same in
          omega (arith, at)
    ]

-- a fault of what stands at a place, that many bytes behind it
record StandsAt (unit_place : UnitPlace) (bytes : List ℕ) (fault : Fault) : Type 0 where
  behind : ℕ
  unit : fault.unit ≡ unit_place.index
  at : fault.at ≡ unit_place.at + behind
  inside : behind ≤ length bytes

stands : (unit_place : UnitPlace) (bytes : List ℕ) (fault : Fault) (behind : ℕ) (cause : Cause) → fault_at unit_place behind cause ≡ fault → behind ≤ length bytes → StandsAt unit_place bytes fault
stands unit_place bytes fault behind cause same inside = record {
  behind = behind;
  unit = sym (ap (λ (x : Fault). x.unit) same);
  at = sym (ap (λ (x : Fault). x.at) same);
  inside = inside;
}

own_fault : (unit_place : UnitPlace) (bytes : List ℕ) (fault : Fault) (behind : ℕ) (cause : Cause) (r : Result ParseInfo (Option Fault)) → r ≡ Err (Some (fault_at unit_place behind cause)) → r ≡ Err (Some fault) → behind ≤ length bytes → StandsAt unit_place bytes fault
own_fault unit_place bytes fault behind cause r first second inside =
    let same : Some (fault_at unit_place behind cause) ≡ Some fault = same_err r (Some (fault_at unit_place behind cause)) (Some fault) first second in
    stands unit_place bytes fault behind cause (same_some (fault_at unit_place behind cause) fault (Some fault) (sym same) refl) inside

front_refused : (unit_place : UnitPlace) (bytes : List ℕ) (fault : Fault) (r : Result ParseInfo Refusal) → 13 ≤ length bytes → info_read (take 13 bytes) ≡ r → unit_front unit_place bytes r ≡ Err (Some fault) → StandsAt unit_place bytes fault
front_refused unit_place bytes fault (Err refusal) long read e =
    own_fault unit_place bytes fault refusal.at refusal.cause (unit_front unit_place bytes (Err refusal)) refl e (omega (arith, long, info_inside (take 13 bytes) refusal read))
front_refused unit_place bytes fault (Ok info) long read e =
    let own : Option Fault = Some (fault_at unit_place (length bytes) Truncated) in
    elim (chosen (nat_lt (length bytes) (span_of info)) (Err own) (Ok info) (Err (Some fault)) e) [
      | inl p ↦ own_fault unit_place bytes fault (length bytes) Truncated (Err own) refl p.1 (omega arith)
      | inr p ↦ never (Ok info) info (Some fault) refl p.1
    ]

front_stands : (unit_place : UnitPlace) (bytes : List ℕ) (fault : Fault) → front_of unit_place bytes ≡ Err (Some fault) → StandsAt unit_place bytes fault
front_stands unit_place bytes fault e =
    let missing : Option Fault = Some (fault_at unit_place 0 MissingEnd) in
    let none : Option Fault = None in
    let closing : Option Fault = if unit_place.closed then none else missing in
    let few : Option Fault = Some (fault_at unit_place (length bytes) Truncated) in
    let whole = unit_front unit_place bytes (info_read (take 13 bytes)) in
    let longer : Result ParseInfo (Option Fault) = if nat_lt (length bytes) 13 then Err few else whole in
    let last : Result ParseInfo (Option Fault) = Err closing in
    elim (chosen (length bytes == 0) last longer (Err (Some fault)) e) [
      | inl p ↦
          let is : closing ≡ Some fault = same_err last closing (Some fault) refl p.1 in
          elim (chosen unit_place.closed none missing (Some fault) is) [
            | inl q ↦ absurd (let no : none ≡ Some fault = q.1 in cc)
            | inr q ↦ stands unit_place bytes fault 0 MissingEnd (same_some (fault_at unit_place 0 MissingEnd) fault missing refl q.1) (omega arith)
          ]
      | inr p ↦ elim (chosen (nat_lt (length bytes) 13) (Err few) whole (Err (Some fault)) p.1) [
        | inl q ↦ own_fault unit_place bytes fault (length bytes) Truncated (Err few) refl q.1 (omega arith)
        | inr q ↦ front_refused unit_place bytes fault (info_read (take 13 bytes)) (ltb-false (length bytes) 13 q.0) refl q.1
      ]
    ]

-- ---- the content of a unit

at_first : (r : Refusal) (cause : Cause) (len : ℕ) (x : Result StreamStep Refusal) → x ≡ Err (record { at = 0; cause = cause }) → x ≡ Err r → r.at ≤ 13 + len
at_first r cause len x first second =
    let own : Refusal = record { at = 0; cause = cause } in
    let at : own.at ≡ r.at = ap (λ (y : Refusal). y.at) (same_err x own r first second) in
    omega (arith, at)

in_payload : (r q : Refusal) (len : ℕ) (x : Result StreamStep Refusal) → q.at ≤ len → x ≡ Err (in_unit q) → x ≡ Err r → r.at ≤ 13 + len
in_payload r q len x inside first second =
    let at : (in_unit q).at ≡ r.at = ap (λ (y : Refusal). y.at) (same_err x (in_unit q) r first second) in
    omega (arith, at, inside)

opening_inside : (state : StreamState) (payload : List ℕ) (r : Refusal) (read : Result Sequence Refusal) → sequence_read payload ≡ read → opening state payload read ≡ Err r → r.at ≤ 13 + length payload
opening_inside state payload r (Ok s) is e = absurd cc
opening_inside state payload r (Err q) is e =
    in_payload r q (length payload) (opening state payload (Err q)) (in_sequence_header payload q is) refl e

header_inside : (state : StreamState) (o : Option Opened) (payload : List ℕ) (r : Refusal) → header_step state o payload ≡ Err r → r.at ≤ 13 + length payload
header_inside state None payload r e = opening_inside state payload r (sequence_read payload) refl e
header_inside state (Some o) payload r e =
    let own : Refusal = record { at = 0; cause = SequenceChanged } in
    let same : Result StreamStep Refusal = Ok (staying state) in
    elim (chosen (is_same payload o.header) same (Err own) (Err r) e) [
      | inl p ↦ never same (staying state) r refl p.1
      | inr p ↦ at_first r SequenceChanged (length payload) (Err own) refl p.1
    ]

made_inside : (state : StreamState) (o : Opened) (code : ℕ) (payload : List ℕ) (r : Refusal) (read : Result CodedPicture Refusal) → picture_read code o.sequence state.list payload ≡ read → shown_or_refused state o read ≡ Err r → r.at ≤ 13 + length payload
made_inside state o code payload r (Ok coded) is e = absurd cc
made_inside state o code payload r (Err q) is e =
    in_payload r q (length payload) (shown_or_refused state o (Err q)) (in_picture code o.sequence state.list payload q is) refl e

picture_inside : (state : StreamState) (o : Option Opened) (code : ℕ) (payload : List ℕ) (r : Refusal) → picture_step state o code payload ≡ Err r → r.at ≤ 13 + length payload
picture_inside state None code payload r e = at_first r _ (length payload) (picture_step state None code payload) refl e
picture_inside state (Some o) code payload r e = made_inside state o code payload r (picture_read code o.sequence state.list payload) refl e

content_inside : (state : StreamState) (code : ℕ) (payload : List ℕ) (r : Refusal) → content state code payload ≡ Err r → r.at ≤ 13 + length payload
content_inside state code payload r e =
    elim (chosen (code == SEQUENCE_HEADER) (header_step state state.opened payload) (picture_step state state.opened code payload) (Err r) e) [
      | inl p ↦ header_inside state state.opened payload r p.1
      | inr p ↦ picture_inside state state.opened code payload r p.1
    ]

pub step_inside : (state : StreamState) (code : ℕ) (payload : List ℕ) (r : Refusal) → unit_step state code payload ≡ Err r → r.at ≤ 13 + length payload
unfolding unit_step
step_inside state code payload r e =
    let over : Result StreamStep Refusal = Ok (passed state code) in
    elim (chosen (fields_are_read code) (content state code payload) over (Err r) e) [
      | inl p ↦ content_inside state code payload r p.1
      | inr p ↦ never over (passed state code) r refl p.1
    ]

-- ---- units

-- a fault lies in the bytes from a place on
record LiesFrom (unit_place : UnitPlace) (bytes : List ℕ) (units : List UnitText) (fault : Fault) : Type 0 where
  count : ℕ
  unit : fault.unit ≡ unit_place.index + count
  at_most : count ≤ length units
  at : fault.at ≤ unit_place.at + length bytes
  begins : (place_behind unit_place (take count units)).at ≤ fault.at
  inside : count < length units → fault.at ≤ (place_behind unit_place (take (suc count) units)).at

-- behind the last unit
lies_last : (unit_place : UnitPlace) (bytes : List ℕ) (fault : Fault) → front_of unit_place bytes ≡ Err (Some fault) → LiesFrom unit_place bytes [] fault
unfolding place_behind
lies_last unit_place bytes fault e =
    let s = front_stands unit_place bytes fault e in
    record {
      count = 0;
      unit = omega (arith, s.unit);
      at_most = omega arith;
      at = omega (arith, s.at, s.inside);
      begins = omega (arith, s.at);
      inside = λ below. absurd (omega (arith, below));
    }

-- in the content of the first unit
lies_first : (unit_place : UnitPlace) (bytes : List ℕ) (unit : UnitText) (units : List UnitText) (refusal : Refusal) (fault : Fault) → front_of unit_place bytes ≡ Ok unit.info → unit.payload ≡ slice_range bytes 13 (span_of unit.info) → refusal.at ≤ 13 + length unit.payload → fault_at unit_place refusal.at refusal.cause ≡ fault → LiesFrom unit_place bytes (unit ∷ units) fault
unfolding place_behind
lies_first unit_place bytes unit units refusal fault front payload early same =
    let whole = front_whole unit_place bytes unit.info front in
    let size : length unit.payload ≡ length (slice_range bytes 13 (span_of unit.info)) = ap length payload in
    let part = length-take (span_of unit.info - 13) (drop 13 bytes) in
    let at : unit_place.at + refusal.at ≡ fault.at = ap (λ (x : Fault). x.at) same in
    let index : unit_place.index ≡ fault.unit = ap (λ (x : Fault). x.unit) same in
    record {
      count = 0;
      unit = omega (arith, index);
      at_most = omega arith;
      at = omega (arith, at, early, size, part, whole.2);
      begins = omega (arith, at);
      inside = λ below. omega (arith, at, early, size, part);
    }

-- behind the first unit
lies_later : (unit_place : UnitPlace) (bytes : List ℕ) (unit : UnitText) (units : List UnitText) (fault : Fault) → front_of unit_place bytes ≡ Ok unit.info → LiesFrom (after unit_place unit.info) (drop (span_of unit.info) bytes) units fault → LiesFrom unit_place bytes (unit ∷ units) fault
unfolding place_behind
lies_later unit_place bytes unit units fault front later =
    let whole = front_whole unit_place bytes unit.info front in
    let less = length-drop (span_of unit.info) bytes in
    record {
      count = suc later.count;
      unit = omega (arith, later.unit);
      at_most = omega (arith, later.at_most);
      at = omega (arith, later.at, less, whole.2);
      begins = later.begins;
      inside = λ below. later.inside (omega (arith, below));
    }

lies_cut : (unit_place : UnitPlace) (bytes : List ℕ) (units : List UnitText) (fault : Fault) → IsCut unit_place bytes units (Some fault) → LiesFrom unit_place bytes units fault
lies_cut unit_place bytes [] fault cut = lies_last unit_place bytes fault cut
lies_cut unit_place bytes (unit ∷ units) fault cut =
    lies_later unit_place bytes unit units fault cut.0 (lies_cut (after unit_place unit.info) (drop (span_of unit.info) bytes) units fault cut.2)

lies_step : (state : StreamState) (unit_place : UnitPlace) (bytes : List ℕ) (unit : UnitText) (units : List UnitText) (end : Option Fault) (fault : Fault) (r : Result StreamStep Refusal) → IsCut unit_place bytes (unit ∷ units) end → unit_step state unit.info.code unit.payload ≡ r
    → (follows state unit_place (λ next. outcome next (after unit_place unit.info) units end) r).end ≡ Some fault
    → ((next : StreamState) → (outcome next (after unit_place unit.info) units end).end ≡ Some fault → LiesFrom (after unit_place unit.info) (drop (span_of unit.info) bytes) units fault)
    → LiesFrom unit_place bytes (unit ∷ units) fault
lies_step state unit_place bytes unit units end fault (Ok m) cut is ends later =
    lies_later unit_place bytes unit units fault cut.0 (later m.state ends)
lies_step state unit_place bytes unit units end fault (Err refusal) cut is ends later =
    lies_first unit_place bytes unit units refusal fault cut.0 cut.1 (step_inside state unit.info.code unit.payload refusal is)
    (same_some (fault_at unit_place refusal.at refusal.cause) fault (Some (fault_at unit_place refusal.at refusal.cause)) refl ends)

lies_shown : (state : StreamState) (unit_place : UnitPlace) (bytes : List ℕ) (units : List UnitText) (end : Option Fault) (fault : Fault) → IsCut unit_place bytes units end → (outcome state unit_place units end).end ≡ Some fault → LiesFrom unit_place bytes units fault
unfolding outcome
lies_shown state unit_place bytes [] end fault cut ends = lies_last unit_place bytes fault (cut ∙ ap Err ends)
lies_shown state unit_place bytes (unit ∷ units) end fault cut ends =
    lies_step state unit_place bytes unit units end fault (unit_step state unit.info.code unit.payload) cut refl ends
    (λ next more. lies_shown next (after unit_place unit.info) (drop (span_of unit.info) bytes) units end fault cut.2 more)

-- from the start on
lies_in : (bytes : List ℕ) (units : List UnitText) (end : Option Fault) (fault : Fault) → IsCut first_unit_place bytes units end → LiesFrom first_unit_place bytes units fault → LiesIn bytes fault
lies_in bytes units end fault cut lies =
    let same : lies.count ≡ fault.unit = omega (arith, lies.unit) in
    record {
      at = omega (arith, lies.at);
      units = units;
      end = end;
      cut = cut;
      unit = omega (arith, lies.at_most, same);
      begins = subst (λ (n : ℕ). (place_behind first_unit_place (take n units)).at ≤ fault.at) same lies.begins;
      inside = subst (λ (n : ℕ). n < length units → fault.at ≤ (place_behind first_unit_place (take (suc n) units)).at) same lies.inside;
    }

pub faults_lie : (bytes : List ℕ) (o : Outcome) (fault : Fault) → IsShown bytes o → o.end ≡ Some fault → LiesIn bytes fault
faults_lie bytes o fault shown ends =
    lies_in bytes shown.units shown.end fault shown.cut
    (lies_shown stream_begun first_unit_place bytes shown.units shown.end fault shown.cut (ap (λ (x : Outcome). x.end) shown.same ∙ ends))

pub cut_faults_lie : (bytes : List ℕ) (units : List UnitText) (fault : Fault) → IsCut first_unit_place bytes units (Some fault) → LiesIn bytes fault
cut_faults_lie bytes units fault cut = lies_in bytes units (Some fault) fault cut (lies_cut first_unit_place bytes units fault cut)
