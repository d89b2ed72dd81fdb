-- One unit of a stream, and what the bytes behind it show.
use Rattle.std.proofs.Common.{◌≡◌, ◌∙◌, ℕ, Bool, true, false, if◌then◌else◌, List, [], ◌∷◌, drop, slice_range, Option, None, Some, Result, Ok, Err, refl, sym, ap, subst, arith, length}
use Rattle.std.specs.Prelude.{IfSome}
use Rattle.dirac_common.specs.declared.faults.Fault.{Fault}
use Rattle.dirac_common.specs.declared.faults.Refusal.{Refusal}
use Rattle.dirac_units.specs.declared.info.ParseInfo.{ParseInfo}
use Rattle.dirac_units.specs.declared.unit_place.UnitPlace.{UnitPlace}
use Rattle.dirac_units.specs.declared.unit.Unit.{Unit}
use Rattle.dirac_units.specs.Info.{fields_are_read, span_of}
use Rattle.dirac_units.specs.Cut.{UnitText, IsCut, EachHasACut, after, fault_at, front_of}
use Rattle.dirac_units.specs.Progress.{IsFirstUnit, kept_payload}
use Rattle.dirac_units.proofs.Cuts.{cut_by}
use Rattle.dirac_content.specs.StreamState.{StreamState, StreamStep, content, unit_step, passed}
use Rattle.dirac_content.specs.Shown.{Outcome, Shows, ends_with, follows, outcome, with_front}

chosen : (b : Bool) (state : StreamState) (code : ℕ) (payload : List ℕ) → (if b then content state code (if b then payload else []) else Ok (passed state code)) ≡ (if b then content state code payload else Ok (passed state code))
chosen true state code payload = refl
chosen false state code payload = refl

-- content doesn't depend on a payload that isn't kept
moved_kept : (state : StreamState) (info : ParseInfo) (bytes : List ℕ) → unit_step state info.code (kept_payload true info bytes) ≡ unit_step state info.code (slice_range bytes 13 (span_of info))
unfolding unit_step
moved_kept state info bytes = chosen (fields_are_read info.code) state info.code (slice_range bytes 13 (span_of info))

-- the unit with its payload as it stands in the bytes
abbrev pub text_of : ParseInfo → List ℕ → UnitText
text_of info bytes = record { info = info; payload = slice_range bytes 13 (span_of info) }

pub moved_text : (state : StreamState) (unit : Unit) (bytes : List ℕ) (read : Result StreamStep Refusal) → unit.payload ≡ kept_payload true unit.info bytes → unit_step state unit.info.code unit.payload ≡ read → unit_step state unit.info.code (text_of unit.info bytes).payload ≡ read
moved_text state unit bytes read payload is =
    sym (moved_kept state unit.info bytes) ∙ ap (unit_step state unit.info.code) (sym payload) ∙ is

outcome_by : (state : StreamState) (unit_place : UnitPlace) (unit : UnitText) (units : List UnitText) (end : Option Fault) (read : Result StreamStep Refusal) → unit_step state unit.info.code unit.payload ≡ read → outcome state unit_place (unit ∷ units) end ≡ follows state unit_place (λ next. outcome next (after unit_place unit.info) units end) read
unfolding outcome
outcome_by state unit_place unit units end read is = ap (follows state unit_place (λ next. outcome next (after unit_place unit.info) units end)) is

-- a unit whose content is accepted
passes : (state : StreamState) (unit_place : UnitPlace) (bytes : List ℕ) (unit : Unit) (m : StreamStep) (o : Outcome) → front_of unit_place bytes ≡ Ok unit.info → unit.payload ≡ kept_payload true unit.info bytes → unit_step state unit.info.code unit.payload ≡ Ok m → Shows m.state (after unit_place unit.info) (drop (span_of unit.info) bytes) o → Shows state unit_place bytes (with_front m.gone o)
passes state unit_place bytes unit m o front payload is s = record {
  units = text_of unit.info bytes ∷ s.units;
  end = s.end;
  cut = (front, refl, s.cut);
  same = outcome_by state unit_place (text_of unit.info bytes) s.units s.end (Ok m) (moved_text state unit bytes (Ok m) payload is) ∙ ap (with_front m.gone) s.same;
}

-- the fault of a refusal
abbrev pub fault_of : UnitPlace → Refusal → Fault
fault_of unit_place refusal = fault_at unit_place refusal.at refusal.cause

-- a unit whose content is refused: the stream shows no more
refused_at : (state : StreamState) (unit_place : UnitPlace) (bytes : List ℕ) (unit : Unit) (refusal : Refusal) → EachHasACut → front_of unit_place bytes ≡ Ok unit.info → unit.payload ≡ kept_payload true unit.info bytes → unit_step state unit.info.code unit.payload ≡ Err refusal → Shows state unit_place bytes (ends_with state (Some (fault_of unit_place refusal)))
refused_at state unit_place bytes unit refusal cuts front payload is =
    let rest : (units : List UnitText) × (end : Option Fault) × IsCut (after unit_place unit.info) (drop (span_of unit.info) bytes) units end = cuts (after unit_place unit.info) (drop (span_of unit.info) bytes) in
    record {
      units = text_of unit.info bytes ∷ rest.0;
      end = rest.1;
      cut = (front, refl, rest.2);
      same = outcome_by state unit_place (text_of unit.info bytes) rest.0 rest.1 (Err refusal) (moved_text state unit bytes (Err refusal) payload is);
    }

ended_at : (state : StreamState) (unit_place : UnitPlace) (bytes : List ℕ) (end : Option Fault) → front_of unit_place bytes ≡ Err end → Shows state unit_place bytes (ends_with state end)
unfolding outcome
ended_at state unit_place bytes end front = record { units = []; end = end; cut = front; same = refl }

-- the same three over bytes that may not be told
pub told_unit : (known known' : Option (List ℕ)) (unit : Unit) (unit_place unit_place' : UnitPlace) (state : StreamState) (m : StreamStep) (o : Outcome) → IfSome known (λ bytes. IsFirstUnit true unit unit_place bytes known') → unit_place' ≡ after unit_place unit.info → unit_step state unit.info.code unit.payload ≡ Ok m → IfSome known' (λ bytes. Shows m.state unit_place' bytes o) → IfSome known (λ bytes. Shows state unit_place bytes (with_front m.gone o))
told_unit None known' unit unit_place unit_place' state m o first next is later = tt
told_unit (Some bytes) known' unit unit_place unit_place' state m o first next is later =
    let here : IfSome known' (λ b. Shows m.state (after unit_place unit.info) b o) = subst (λ (s : UnitPlace). IfSome known' (λ b. Shows m.state s b o)) next later in
    let behind : Shows m.state (after unit_place unit.info) (drop (span_of unit.info) bytes) o = subst (λ (k : Option (List ℕ)). IfSome k (λ b. Shows m.state (after unit_place unit.info) b o)) first.2 here in
    passes state unit_place bytes unit m o first.0 first.1 is behind

pub told_refusal : (known known' : Option (List ℕ)) (unit : Unit) (unit_place : UnitPlace) (state : StreamState) (refusal : Refusal) → EachHasACut → IfSome known (λ bytes. IsFirstUnit true unit unit_place bytes known') → unit_step state unit.info.code unit.payload ≡ Err refusal → IfSome known (λ bytes. Shows state unit_place bytes (ends_with state (Some (fault_of unit_place refusal))))
told_refusal None known' unit unit_place state refusal cuts first is = tt
told_refusal (Some bytes) known' unit unit_place state refusal cuts first is =
    refused_at state unit_place bytes unit refusal cuts first.0 first.1 is

pub told_end : (known : Option (List ℕ)) (unit_place : UnitPlace) (state : StreamState) (end : Option Fault) → IfSome known (λ bytes. front_of unit_place bytes ≡ Err end) → IfSome known (λ bytes. Shows state unit_place bytes (ends_with state end))
told_end None unit_place state end front = tt
told_end (Some bytes) unit_place state end front = ended_at state unit_place bytes end front

-- each list of bytes has a cut
pub each_has_a_cut : EachHasACut
each_has_a_cut unit_place bytes = cut_by (length bytes) unit_place bytes (front_of unit_place bytes) refl (omega arith)
