-- A stream that was checked, and why a cut of it is refused.
use Rattle.std.proofs.Common.{◌≡◌, ◌∙◌, ℕ, ◌<◌, ◌^◌, List, [], ◌∷◌, Option, None, Some, Ok, Err, refl, sym, ap, ap₂, subst}
use Rattle.std.specs.Prelude.{option_map, unwrap_or}
use Rattle.std.specs.List.{AllByRecursion}
use Rattle.std.specs.Option.{option_or}
use Rattle.dirac_common.specs.declared.faults.Fault.{Fault}
use Rattle.dirac_units.specs.declared.unit_place.UnitPlace.{UnitPlace}
use Rattle.dirac_units.specs.Cut.{IsCut, NoneHasTwoCuts, UnitText, after, first_unit_place}
use Rattle.dirac_content.specs.StreamState.{StreamState, stream_begun, unit_step}
use Rattle.dirac_content.specs.Shown.{IsShown, Outcome, follows, outcome}
use Rattle.dirac_edit_laws.specs.Cut.{cut_bytes, end_point, open_cut, part_of, part_shown, wrong_point}
use Rattle.dirac_edit_laws.specs.Laws.{CutsShowTheirParts, IsFaultless, ShowsJust, UnitsShowTheirSequences}
use Rattle.dirac_edit_laws.specs.Rebuilt.{IsRead}
use Rattle.dirac_edit_laws.specs.Texts.{SequenceText, points_of, sequences, with_pictures}
use Rattle.dirac_edit.specs.declared.answers.Edited.{Edited}
use Rattle.dirac_edit.specs.declared.answers.Edited.TheVariants as edited
use Rattle.dirac_edit.specs.declared.bounds.Part.{Part}
use Rattle.dirac_edit.specs.Edits.{cut_refusal}
use Rattle.dirac_edit.specs.Kept.{kept_of}
use Rattle.dirac_edit.specs.Open.{first_open_among}
use Rattle.dirac_edit.specs.Steps.{HasNoFault, IsChecked, IsCutPart, IsStreamRefused, RefusesCut}
use Rattle.dirac_edit.specs.Units.{IsCutInto}
use Rattle.dirac_edit.proofs.Keeping.{part_kept}
use Rattle.dirac_edit.proofs.Opening.{open_is}

-- a stream without a fault is cut to its lawful end
pub ends_well : (units : List UnitText) (state : StreamState) (unit_place : UnitPlace) (end : Option Fault) → (outcome state unit_place units end).end ≡ None → end ≡ None
unfolding outcome
ends_well [] state unit_place end none = none
ends_well (u ∷ units) state unit_place end none =
    elim (unit_step state u.info.code u.payload) as (λ r. (follows state unit_place (λ next. outcome next (after unit_place u.info) units end) r).end ≡ None → end ≡ None) [
      | Ok m ↦ λ good. ends_well units m.state (after unit_place u.info) end good
      | Err refusal ↦ λ bad. absurd cc
    ] none

-- its units were found
pub checked : (bytes : List ℕ) (units : List UnitText) → NoneHasTwoCuts → HasNoFault bytes → IsCutInto bytes units → IsChecked bytes units
checked bytes units one sound found =
    let stream : IsShown bytes sound.0 = sound.1 in
    record {
      outcome = sound.0;
      stream = stream;
      none = sound.2;
      same = (one first_unit_place bytes stream.units units stream.end found.0 stream.cut found.1).0;
    }

-- it is without a fault
pub faultless : (bytes : List ℕ) (units : List UnitText) → AllByRecursion (λ b. b < 2 ^ 8) bytes → IsChecked bytes units → IsFaultless bytes units
faultless bytes units below c =
    let good : (outcome stream_begun first_unit_place c.stream.units c.stream.end).end ≡ None = ap (λ (o : Outcome). o.end) c.stream.same ∙ c.none in
    let last : c.stream.end ≡ None = ends_well c.stream.units stream_begun first_unit_place c.stream.end good in
    record {
      below = below;
      cut = subst (λ (us : List UnitText). IsCut first_unit_place bytes us None) c.same (subst (λ (e : Option Fault). IsCut first_unit_place bytes c.stream.units e) last c.stream.cut);
      none = subst (λ (us : List UnitText). (outcome stream_begun first_unit_place us None).end ≡ None) c.same (subst (λ (e : Option Fault). (outcome stream_begun first_unit_place c.stream.units e).end ≡ None) last good);
    }

-- why a cut of it is refused, by its points and its open unit
refusal_is : (bytes : List ℕ) (units : List UnitText) (from : ℕ) (to : Option ℕ) (c : IsChecked bytes units)
    → cut_refusal c.outcome.end c.stream.units from to ≡ cut_refusal None units from to
refusal_is bytes units from to c = ap₂ (λ (e : Option Fault) (us : List UnitText). cut_refusal e us from to) c.none c.same

abbrev of_open : Option ℕ → Option Edited
of_open unit = option_map edited.OpenCut unit

abbrev of_point : Option ℕ → Option Edited
of_point point = option_map edited.NoSuchPoint point

pub wrong_refused : (bytes : List ℕ) (units : List UnitText) (from : ℕ) (to : Option ℕ) (n : ℕ) → IsChecked bytes units → wrong_point from to (points_of units) ≡ Some n → RefusesCut bytes from to (edited.NoSuchPoint n)
wrong_refused bytes units from to n c is = record {
  outcome = c.outcome;
  stream = c.stream;
  reason = refusal_is bytes units from to c ∙ ap (λ point. option_or (of_point point) (of_open (open_cut units from (end_point to (points_of units))))) is;
}

-- a stream with a fault
pub fault_refused : (bytes : List ℕ) (from : ℕ) (to : Option ℕ) (answer : Edited) → IsStreamRefused bytes answer → RefusesCut bytes from to answer
fault_refused bytes from to edited.Done refused = absurd refused
fault_refused bytes from to (edited.Fault fault) refused = record {
  outcome = refused.0;
  stream = refused.1;
  reason = ap (λ (e : Option Fault). cut_refusal e refused.1.units from to) refused.2;
}
fault_refused bytes from to (edited.NoSuchPoint n) refused = absurd refused
fault_refused bytes from to (edited.OpenCut n) refused = absurd refused
fault_refused bytes from to edited.ReadFault refused = absurd refused
fault_refused bytes from to edited.WriteFault refused = absurd refused
fault_refused bytes from to edited.NoMemory refused = record { outcome = refused.0; stream = refused.1; reason = tt }

-- a part, as it was found: its end, its sequences and its first open unit
pub record IsFound (units : List UnitText) (from : ℕ) (to : Option ℕ) (kept : List SequenceText) (open_unit : Option ℕ) : Type 0 where
  pub right : wrong_point from to (points_of units) ≡ None
  pub same : kept ≡ kept_of (Some (record { from = from; to = end_point to (points_of units) })) units
  pub first : open_unit ≡ first_open_among kept

end_is : (to : Option ℕ) (points : ℕ) → unwrap_or to points ≡ end_point to points
end_is None points = refl
end_is (Some n) points = refl

pub found : (units units' units'' : List UnitText) (from : ℕ) (to : Option ℕ) (points last : ℕ) (wrong : Option ℕ) (kept kept' : List SequenceText) (open_unit : Option ℕ)
    → units' ≡ units → units'' ≡ units → points ≡ points_of units' → wrong ≡ wrong_point from to points → wrong ≡ None → last ≡ unwrap_or to points
    → kept ≡ kept_of (Some (record { from = from; to = last })) units'' → kept' ≡ kept → open_unit ≡ first_open_among kept' → IsFound units from to kept open_unit
found units units' units'' from to points last wrong kept kept' open_unit same same' points_is wrong_is none last_is kept_is kept_same open_is =
    let all : points ≡ points_of units = points_is ∙ ap points_of same in
    let end : last ≡ end_point to (points_of units) = last_is ∙ end_is to points ∙ ap (end_point to) all in
    record {
      right = sym (ap (wrong_point from to) all) ∙ sym wrong_is ∙ none;
      same = kept_is ∙ ap₂ (λ (n : ℕ) (us : List UnitText). let part : Part = record { from = from; to = n } in kept_of (Some part) us) end same';
      first = open_is ∙ ap first_open_among kept_same;
    }

pub point_wrong : (units units' : List UnitText) (from : ℕ) (to : Option ℕ) (points n : ℕ) (wrong : Option ℕ) → units' ≡ units → points ≡ points_of units' → wrong ≡ wrong_point from to points → wrong ≡ Some n
    → wrong_point from to (points_of units) ≡ Some n
point_wrong units units' from to points n wrong same points_is wrong_is some =
    sym (ap (wrong_point from to) (points_is ∙ ap points_of same)) ∙ sym wrong_is ∙ some

open_unit_is : (bytes : List ℕ) (units : List UnitText) (from : ℕ) (to : Option ℕ) (kept : List SequenceText) (open_unit : Option ℕ) → UnitsShowTheirSequences → AllByRecursion (λ b. b < 2 ^ 8) bytes → IsChecked bytes units
    → IsFound units from to kept open_unit → open_unit ≡ open_cut units from (end_point to (points_of units))
open_unit_is bytes units from to kept open_unit shown below c f =
    let last : ℕ = end_point to (points_of units) in
    let all : AllByRecursion IsRead (sequences units) = (shown units (faultless bytes units below c).none).0 in
    f.first ∙ ap first_open_among (f.same ∙ part_kept (record { from = from; to = last }) units) ∙ open_is from last (sequences units) all

pub open_refused : (bytes : List ℕ) (units : List UnitText) (from : ℕ) (to : Option ℕ) (kept : List SequenceText) (open_unit : Option ℕ) (n : ℕ) → UnitsShowTheirSequences → AllByRecursion (λ b. b < 2 ^ 8) bytes → IsChecked bytes units
    → IsFound units from to kept open_unit → open_unit ≡ Some n → RefusesCut bytes from to (edited.OpenCut n)
open_refused bytes units from to kept open_unit n shown below c f is = record {
  outcome = c.outcome;
  stream = c.stream;
  reason = refusal_is bytes units from to c
      ∙ ap₂ (λ (point unit : Option ℕ). option_or (of_point point) (of_open unit)) f.right (sym (open_unit_is bytes units from to kept open_unit shown below c f) ∙ is);
}

-- a part that may be written
pub part_allowed : (bytes : List ℕ) (units : List UnitText) (from : ℕ) (to : Option ℕ) (kept : List SequenceText) (open_unit : Option ℕ) → UnitsShowTheirSequences → CutsShowTheirParts → AllByRecursion (λ b. b < 2 ^ 8) bytes
    → IsChecked bytes units → IsFound units from to kept open_unit → open_unit ≡ None → IsCutPart bytes from to kept
part_allowed bytes units from to kept open_unit all shown below c f is =
    let part : Part = record { from = from; to = end_point to (points_of units) } in
    let closed : open_cut units from (end_point to (points_of units)) ≡ None = sym (open_unit_is bytes units from to kept open_unit all below c f) ∙ is in
    record {
      outcome = c.outcome;
      stream = c.stream;
      allowed = refusal_is bytes units from to c ∙ ap₂ (λ (point unit : Option ℕ). option_or (of_point point) (of_open unit)) f.right closed;
      shows = (
        c.outcome,
        c.stream,
        subst (λ (us : List UnitText). ShowsJust (cut_bytes us from (end_point to (points_of us))) (part_shown us from (end_point to (points_of us)))) (sym c.same)
            (shown bytes units from to (faultless bytes units below c) f.right closed),
      );
      same = ap with_pictures (f.same ∙ part_kept part units) ∙ sym (ap (λ (us : List UnitText). part_of from (end_point to (points_of us)) us) c.same);
    }
