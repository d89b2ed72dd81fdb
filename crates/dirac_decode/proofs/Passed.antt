-- The units that a decoder read, and the pictures that left meanwhile.
use Rattle.std.proofs.Common.{◌≡◌, ◌∙◌, if◌then◌else◌, ℕ, ◌-◌, ◌≤◌, List, [], ◌∷◌, ◌++◌, length, take, drop, slice_range, Option, None, Some, Result, Ok, true, refl, sym, ap, subst, arith, append_assoc, append-nil, length-append, length-drop}
use Rattle.std.specs.Prelude.{IfSome, ◌&&◌}
use Rattle.std.proofs.lemmas.List.{drop-append-le, length-take-le, take-append-drop, take-append-le}
use Rattle.std.proofs.Math.Seq.{drop-append_seam}
use Rattle.dirac_common.specs.declared.faults.Fault.{Fault}
use Rattle.dirac_common.specs.declared.faults.Refusal.{Refusal}
use Rattle.dirac_common.specs.declared.picture.Picture.{Picture}
use Rattle.dirac_units.specs.declared.info.ParseInfo.{ParseInfo}
use Rattle.dirac_units.specs.declared.unit_place.UnitPlace.{UnitPlace}
use Rattle.dirac_units.specs.declared.unit.Unit.{Unit}
use Rattle.dirac_units.specs.Cut.{IsCut, IsEndOfBytes, UnitText, after, front_of}
use Rattle.dirac_units.specs.Info.{fields_are_read, info_read, span_of}
use Rattle.dirac_units.specs.Progress.{IsFirstUnit, IsPartTaken}
use Rattle.dirac_units.proofs.Fronts.{front_is, front_whole}
use Rattle.dirac_decode.specs.Decoding.{BreaksIn, Decoding, Passed}
use Rattle.dirac_content.specs.Leaving.{leaving, leaving_on}
use Rattle.dirac_content.specs.Shown.{accepted, accepted_on}
use Rattle.dirac_content.specs.StreamState.{StreamState, StreamStep, unit_step}
use Rattle.dirac_content.proofs.Passing.{moved_text, text_of}

-- ---- nothing was read

pub passed_none : (known : Option (List ℕ)) (old new : Decoding) (given : List Picture) → new.units.unit_place ≡ old.units.unit_place → new.state ≡ old.state
    → ((more : List UnitText) → old.due ++ leaving old.state more ≡ given ++ (new.due ++ leaving new.state more)) → IfSome known (λ bytes. Passed old new bytes known given)
passed_none None old new given place same leaves = tt
passed_none (Some bytes) old new given place same leaves = record {
  read = [];
  rest = bytes;
  units = [];
  parts = refl;
  holds = refl;
  cut = λ behind more end is. subst (λ (p : UnitPlace). IsCut p behind more end) place is;
  accepts = λ more. ap (λ s. accepted s more) (sym same);
  leaves = leaves;
}

-- ---- a unit was read

leaving_by : (state : StreamState) (unit : UnitText) (more : List UnitText) (read : Result StreamStep Refusal) → unit_step state unit.info.code unit.payload ≡ read → leaving state (unit ∷ more) ≡ leaving_on (λ next. leaving next more) read
unfolding leaving
leaving_by state unit more read is = ap (leaving_on (λ next. leaving next more)) is

accepted_by : (state : StreamState) (unit : UnitText) (more : List UnitText) (read : Result StreamStep Refusal) → unit_step state unit.info.code unit.payload ≡ read → accepted state (unit ∷ more) ≡ accepted_on unit (λ next. accepted next more) read
unfolding accepted
accepted_by state unit more read is = ap (accepted_on unit (λ next. accepted next more)) is

-- the unit at the front of bytes is the same, whatever stands behind it
unit_behind : (unit_place : UnitPlace) (info : ParseInfo) (bytes behind : List ℕ) → front_of unit_place bytes ≡ Ok info → (front_of unit_place (take (span_of info) bytes ++ behind) ≡ Ok info)
    × (slice_range bytes 13 (span_of info) ≡ slice_range (take (span_of info) bytes ++ behind) 13 (span_of info)) × (drop (span_of info) (take (span_of info) bytes ++ behind) ≡ behind)
unit_behind unit_place info bytes behind is =
    let span = span_of info in
    let read = take span bytes in
    let rest = drop span bytes in
    let whole = front_whole unit_place bytes info is in
    let size : length read ≡ span = length-take-le span bytes whole.2 in
    let long : 13 ≤ length read = omega (arith, size) in
    let parts : read ++ rest ≡ bytes = take-append-drop span bytes in
    let reads : info_read (take 13 (read ++ behind)) ≡ Ok info =
    ap info_read (take-append-le 13 read behind long ∙ sym (take-append-le 13 read rest long) ∙ ap (take 13) parts) ∙ whole.1 in
    let part : (x : List ℕ) → slice_range (read ++ x) 13 span ≡ take (span - 13) (drop 13 read) =
    λ x. ap (take (span - 13)) (drop-append-le 13 read x long) ∙ take-append-le (span - 13) (drop 13 read) x (omega (arith, length-drop 13 read, size)) in (
      front_is unit_place (read ++ behind) info (omega (arith, length-append read behind, long)) reads (omega (arith, length-append read behind, size)),
      ap (λ l. slice_range l 13 span) (sym parts) ∙ part rest ∙ sym (part behind),
      ap (λ n. drop n (read ++ behind)) (sym size) ∙ drop-append_seam read behind,
    )

pub cut_unit : (unit_place unit_place' : UnitPlace) (info : ParseInfo) (bytes behind : List ℕ) (more : List UnitText) (end : Option Fault) → front_of unit_place bytes ≡ Ok info → unit_place' ≡ after unit_place info → IsCut unit_place' behind more end → IsCut unit_place (take (span_of info) bytes ++ behind) (text_of info bytes ∷ more) end
cut_unit unit_place unit_place' info bytes behind more end is next later =
    let same = unit_behind unit_place info bytes behind is in
    (same.0, same.1, subst (λ l. IsCut (after unit_place info) l more end) (sym same.2) (subst (λ (p : UnitPlace). IsCut p behind more end) next later))

pub first_behind : (unit : Unit) (unit_place : UnitPlace) (bytes behind : List ℕ) (known : Option (List ℕ)) → IsFirstUnit true unit unit_place bytes known → IsFirstUnit true unit unit_place (take (span_of unit.info) bytes ++ behind) (Some behind)
first_behind unit unit_place bytes behind known first =
    let same = unit_behind unit_place unit.info bytes behind first.0 in
    (same.0, first.1 ∙ ap (λ part. if true && fields_are_read unit.info.code then part else []) same.1, ap Some (sym same.2))

pub passed_unit : (known known' : Option (List ℕ)) (unit : Unit) (old new : Decoding) (m : StreamStep) (given : List Picture) → IfSome known (λ bytes. IsFirstUnit true unit old.units.unit_place bytes known') → new.units.unit_place ≡ after old.units.unit_place unit.info
    → unit_step old.state unit.info.code unit.payload ≡ Ok m → old.due ≡ [] → new.state ≡ m.state → m.gone ≡ given ++ new.due → IfSome known (λ bytes. Passed old new bytes known' given)
passed_unit None known' unit old new m given first next is none same gone = tt
passed_unit (Some bytes) known' unit old new m given first next is none same gone =
    let span = span_of unit.info in
    let text = text_of unit.info bytes in
    record {
      read = take span bytes;
      rest = drop span bytes;
      units = text ∷ [];
      parts = sym (take-append-drop span bytes);
      holds = first.2;
      cut = λ behind more end later. cut_unit old.units.unit_place new.units.unit_place unit.info bytes behind more end first.0 next later;
      accepts = λ more.
          accepted_by old.state text more (Ok m) (moved_text old.state unit bytes (Ok m) first.1 is)
          ∙ ap (λ s. text ∷ accepted s more) (sym same);
      leaves = λ more.
          ap (λ due. due ++ leaving old.state (text ∷ more)) none
          ∙ leaving_by old.state text more (Ok m) (moved_text old.state unit bytes (Ok m) first.1 is)
          ∙ ap (λ s. m.gone ++ leaving s more) (sym same)
          ∙ ap (λ g. g ++ leaving new.state more) gone
          ∙ append_assoc given new.due (leaving new.state more);
    }

-- ---- one step and then another

pub passed_on : (known known' known'' : Option (List ℕ)) (a b c : Decoding) (given more : List Picture) → IfSome known (λ bytes. Passed a b bytes known' given) → IfSome known' (λ bytes. Passed b c bytes known'' more) → IfSome known (λ bytes. Passed a c bytes known'' (given ++ more))
passed_on None known' known'' a b c given more first second = tt
passed_on (Some bytes) known' known'' a b c given more p second =
    let q : Passed b c p.rest known'' more = subst (λ (k : Option (List ℕ)). IfSome k (λ rest. Passed b c rest known'' more)) p.holds second in
    record {
      read = p.read ++ q.read;
      rest = q.rest;
      units = p.units ++ q.units;
      parts = p.parts ∙ ap (λ l. p.read ++ l) q.parts ∙ sym (append_assoc p.read q.read q.rest);
      holds = q.holds;
      cut = λ behind us end is.
          subst (λ (l : List ℕ). IsCut a.units.unit_place l ((p.units ++ q.units) ++ us) end) (sym (append_assoc p.read q.read behind))
          (subst (λ (l : List UnitText). IsCut a.units.unit_place (p.read ++ (q.read ++ behind)) l end) (sym (append_assoc p.units q.units us))
          (p.cut (q.read ++ behind) (q.units ++ us) end (q.cut behind us end is)));
      accepts = λ us.
          ap (accepted a.state) (append_assoc p.units q.units us)
          ∙ p.accepts (q.units ++ us)
          ∙ ap (λ l. p.units ++ l) (q.accepts us)
          ∙ sym (append_assoc p.units q.units (accepted c.state us));
      leaves = λ us.
          ap (λ l. a.due ++ leaving a.state l) (append_assoc p.units q.units us)
          ∙ p.leaves (q.units ++ us)
          ∙ ap (λ l. given ++ l) (q.leaves us)
          ∙ sym (append_assoc given more (c.due ++ leaving c.state us));
    }

-- ---- a read failed

pub breaks_in : (known known' held' : Option (List ℕ)) (a b : Decoding) → b.due ≡ [] → IfSome known (λ bytes. Passed a b bytes known' []) → IfSome known' (λ bytes. (end : Option Fault) × IsPartTaken b.units.unit_place end bytes held' × IsEndOfBytes end) → IfSome known (λ bytes. BreaksIn a bytes held')
unfolding leaving accepted
breaks_in None known' held' a b none so part = tt
breaks_in (Some bytes) known' held' a b none p part =
    let found : (end : Option Fault) × IsPartTaken b.units.unit_place end p.rest held' × IsEndOfBytes end =
    subst (λ (k : Option (List ℕ)). IfSome k (λ rest. (end : Option Fault) × IsPartTaken b.units.unit_place end rest held' × IsEndOfBytes end)) p.holds part in
    let t = found.1 in
    record {
      read = p.read ++ t.part;
      rest = t.rest;
      parts = p.parts ∙ ap (λ l. p.read ++ l) t.parts ∙ sym (append_assoc p.read t.part t.rest);
      holds = t.holds;
      units = p.units ++ [];
      end = found.0;
      cut = p.cut t.part [] found.0 t.no_unit;
      bytes_end = found.2;
      accepts = p.accepts [];
      none_due = p.leaves [] ∙ append-nil b.due ∙ none;
    }
