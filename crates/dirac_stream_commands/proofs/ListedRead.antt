-- How the lines written are those of what was read.
use Rattle.std.proofs.Common.{◌≡◌, ℕ, List, [], ◌∷◌, ◌++◌, take, drop, sym, ap, ◌∙◌, refl, subst, Option, None, Some, IfSome}
use Rattle.std.proofs.Common.{Ok, append_assoc, append-nil}
use Rattle.std.proofs.lemmas.List.{take-append-drop}
use Rattle.std.specs.Prelude.{false}
use Rattle.std.specs.Io.KnownBytes.{Appends, Consumes, prepend_known}
use Rattle.std.proofs.KnownBytes.{Appends-trans, Appends-nil}
use Rattle.dirac_io.specs.Writing.{AppendsFront}
use Rattle.dirac_common.specs.declared.faults.Fault.{Fault}
use Rattle.dirac_units.specs.declared.info.ParseInfo.{ParseInfo}
use Rattle.dirac_units.specs.declared.unit.Unit.{Unit}
use Rattle.dirac_units.specs.declared.unit_place.UnitPlace.{UnitPlace}
use Rattle.dirac_units.specs.Info.{span_of}
use Rattle.dirac_units.specs.Cut.{UnitText, first_unit_place, after, front_of, IsCut, IsEndOfBytes, EachHasACut}
use Rattle.dirac_units.specs.Progress.{GivesUnit, HoldsWhatFollows, IsFirstUnit, IsPartTaken, CuttingProgress, TakesSome}
use Rattle.dirac_decode.proofs.Passed.{cut_unit}
use Rattle.dirac_content.proofs.Passing.{text_of}
use Rattle.dirac_stream_commands.specs.Line.{lines, line_text}
use Rattle.dirac_stream_commands.specs.Listing.{IsReadListed, IsFrontListed}
use Rattle.dirac_stream_commands.proofs.Listed.{told_at}

-- whole units were read and their lines written, and these bytes are left; what follows is cut behind those units
pub record HasRead (unit_place : UnitPlace) (rest bytes : List ℕ) (out out' : Option (List ℕ)) : Type 0 where
  pub read : List ℕ
  pub parts : bytes ≡ read ++ rest
  pub units : List UnitText
  pub cut : (behind : List ℕ) (more : List UnitText) (end : Option Fault)
      → IsCut unit_place behind more end → IsCut first_unit_place (read ++ behind) (units ++ more) end
  pub text : List ℕ
  pub told : (more : List UnitText) → lines first_unit_place (units ++ more) ≡ text ++ lines unit_place more
  pub written : Appends out out' text

-- the invariant of the loop over the units
abbrev pub ReadsSoFar : CuttingProgress → Option (List ℕ) → Option (List ℕ) → Option (List ℕ) → Option (List ℕ) → Type 0
ReadsSoFar units first held out out' =
    IfSome first (λ bytes. (rest : List ℕ) × (prepend_known units.ahead held ≡ Some rest) × HasRead units.unit_place rest bytes out out')

pub begins_reading : (first out : Option (List ℕ)) → IfSome first (λ bytes. (rest : List ℕ) × (prepend_known [] first ≡ Some rest) × HasRead first_unit_place rest bytes out out)
begins_reading None out = tt
begins_reading (Some bytes) out = (
  bytes,
  refl,
  record {
    read = [];
    parts = refl;
    units = [];
    cut = λ behind more end cut. cut;
    text = [];
    told = λ more. refl;
    written = Appends-nil out;
  },
)

-- one more unit, whose line is written
one_more_read : (unit_place : UnitPlace) (info : ParseInfo) (rest bytes : List ℕ) (out mid out' : Option (List ℕ)) → HasRead unit_place rest bytes out mid
    → front_of unit_place rest ≡ Ok info → Appends mid out' (line_text unit_place.index unit_place.at info) → HasRead (after unit_place info) (drop (span_of info) rest) bytes out out'
one_more_read unit_place info rest bytes out mid out' h is line =
    let span = span_of info in
    let text = line_text unit_place.index unit_place.at info in
    let unit : UnitText = text_of info rest in
    record {
      read = h.read ++ take span rest;
      parts = h.parts ∙ ap (λ l. h.read ++ l) (sym (take-append-drop span rest)) ∙ sym (append_assoc h.read (take span rest) (drop span rest));
      units = h.units ++ unit ∷ [];
      cut = λ behind more end later.
          subst (λ (l : List ℕ). IsCut first_unit_place l ((h.units ++ unit ∷ []) ++ more) end) (sym (append_assoc h.read (take span rest) behind))
          (subst (λ (l : List UnitText). IsCut first_unit_place (h.read ++ (take span rest ++ behind)) l end) (sym (append_assoc h.units (unit ∷ []) more))
          (h.cut (take span rest ++ behind) (unit ∷ more) end (cut_unit unit_place (after unit_place info) info rest behind more end is refl later)));
      text = h.text ++ text;
      told = λ more.
          ap (lines first_unit_place) (append_assoc h.units (unit ∷ []) more) ∙ h.told (unit ∷ more)
          ∙ sym (append_assoc h.text text (lines (after unit_place info) more));
      written = Appends-trans out mid out' h.text text h.written line;
    }

pub reads_on : (unit : Unit) (old new : CuttingProgress) (first held held' out mid out' : Option (List ℕ)) → ReadsSoFar old first held out mid
    → GivesUnit false unit old new held held' → Appends mid out' (line_text unit.index unit.at unit.info) → ReadsSoFar new first held' out out'
reads_on unit old new None held held' out mid out' so_far given line = tt
reads_on unit old new (Some bytes) held held' out mid out' so_far given line =
    let told = told_at (prepend_known old.ahead held) so_far.0 (λ rest. IsFirstUnit false unit old.unit_place rest (prepend_known new.ahead held')) given.told so_far.1 in
    let line_here = subst (λ n. Appends mid out' (line_text n old.unit_place.at unit.info)) given.index (subst (λ n. Appends mid out' (line_text unit.index n unit.info)) given.at line) in
    let more = one_more_read old.unit_place unit.info so_far.0 bytes out mid out' so_far.2 told.0 line_here in (
      drop (span_of unit.info) so_far.0,
      told.2,
      subst (λ unit_place. HasRead unit_place (drop (span_of unit.info) so_far.0) bytes out out') (sym given.next) more,
    )

-- a read failed: the lines of all units that were read whole are written
whole_read : (unit_place : UnitPlace) (end : Option Fault) (rest bytes : List ℕ) (held' out out' : Option (List ℕ)) → HasRead unit_place rest bytes out out' → IsPartTaken unit_place end rest held' → IsEndOfBytes end → IsReadListed bytes held' out out'
whole_read unit_place end rest bytes held' out out' h part last = record {
  read = h.read ++ part.part;
  rest = part.rest;
  parts = h.parts ∙ ap (λ l. h.read ++ l) part.parts ∙ sym (append_assoc h.read part.part part.rest);
  holds = part.holds;
  units = h.units ++ [];
  end = end;
  cut = h.cut part.part [] end part.no_unit;
  bytes_end = last;
  listed = subst (Appends out out') (sym (append-nil h.text) ∙ sym (h.told [])) h.written;
}

-- the end or a fault: they are, too
whole_front : (unit_place : UnitPlace) (end : Option Fault) (rest bytes : List ℕ) (held' out out' : Option (List ℕ)) → HasRead unit_place rest bytes out out' → IsPartTaken unit_place end rest held' → IsFrontListed bytes held' out out'
whole_front unit_place end rest bytes held' out out' h part = record {
  read = h.read ++ part.part;
  rest = part.rest;
  parts = h.parts ∙ ap (λ l. h.read ++ l) part.parts ∙ sym (append_assoc h.read part.part part.rest);
  holds = part.holds;
  units = h.units ++ [];
  end = end;
  cut = h.cut part.part [] end part.no_unit;
  listed = (h.text, [], h.told [], h.written);
}

pub ends_listing : (old : CuttingProgress) (end : Option Fault) (first held held' out out' : Option (List ℕ)) → ReadsSoFar old first held out out'
    → IfSome (prepend_known old.ahead held) (λ bytes. IsPartTaken old.unit_place end bytes held') → IfSome first (λ bytes. IsFrontListed bytes held' out out')
ends_listing old end None held held' out out' so_far part = tt
ends_listing old end (Some bytes) held held' out out' so_far part =
    whole_front old.unit_place end so_far.0 bytes held' out out' so_far.2
    (told_at (prepend_known old.ahead held) so_far.0 (λ rest. IsPartTaken old.unit_place end rest held') part so_far.1)

pub breaks_listing : (old : CuttingProgress) (first held held' out out' : Option (List ℕ)) → ReadsSoFar old first held out out'
    → IfSome (prepend_known old.ahead held) (λ bytes. (end : Option Fault) × IsPartTaken old.unit_place end bytes held' × IsEndOfBytes end) → IfSome first (λ bytes. IsReadListed bytes held' out out')
breaks_listing old None held held' out out' so_far part = tt
breaks_listing old (Some bytes) held held' out out' so_far part =
    let told = told_at (prepend_known old.ahead held) so_far.0 (λ rest. (end : Option Fault) × IsPartTaken old.unit_place end rest held' × IsEndOfBytes end) part so_far.1 in
    whole_read old.unit_place told.0 so_far.0 bytes held' out out' so_far.2 told.1 told.2

front_of_whole : (bytes : List ℕ) (held' out out' : Option (List ℕ)) → IsReadListed bytes held' out out' → IsFrontListed bytes held' out out'
front_of_whole bytes held' out out' w = record {
  read = w.read;
  rest = w.rest;
  parts = w.parts;
  holds = w.holds;
  units = w.units;
  end = w.end;
  cut = w.cut;
  listed = (lines first_unit_place w.units, [], sym (append-nil (lines first_unit_place w.units)), w.listed);
}

pub front_of_broken : (first held' out out' : Option (List ℕ)) → IfSome first (λ bytes. IsReadListed bytes held' out out') → IfSome first (λ bytes. IsFrontListed bytes held' out out')
front_of_broken None held' out out' w = tt
front_of_broken (Some bytes) held' out out' w = front_of_whole bytes held' out out' w

left_behind : (bytes part : List ℕ) (held' : Option (List ℕ)) → Consumes (Some bytes) held' part → (rest : List ℕ) × (held' ≡ Some rest) × (bytes ≡ part ++ rest)
left_behind bytes part None is = absurd is
left_behind bytes part (Some rest) is = (rest, refl, is)

-- memory was wanting while a unit was read
some_read : EachHasACut → (unit_place : UnitPlace) (part rest bytes : List ℕ) (held' out out' : Option (List ℕ)) → HasRead unit_place rest bytes out out' → Consumes (Some rest) held' part → IsFrontListed bytes held' out out'
some_read each unit_place part rest bytes held' out out' h takes =
    let left = left_behind rest part held' takes in
    let cut = each unit_place part in
    record {
      read = h.read ++ part;
      rest = left.0;
      parts = h.parts ∙ ap (λ l. h.read ++ l) left.2 ∙ sym (append_assoc h.read part left.0);
      holds = left.1;
      units = h.units ++ cut.0;
      end = cut.1;
      cut = h.cut part cut.0 cut.1 cut.2;
      listed = (h.text, lines unit_place cut.0, h.told cut.0, h.written);
    }

pub stops_reading : EachHasACut → (old : CuttingProgress) (first held held' out out' : Option (List ℕ)) → ReadsSoFar old first held out out' → TakesSome old held held' → IfSome first (λ bytes. IsFrontListed bytes held' out out')
stops_reading each old None held held' out out' so_far takes = tt
stops_reading each old (Some bytes) held held' out out' so_far takes =
    some_read each old.unit_place takes.0 so_far.0 bytes held' out out' so_far.2
    (subst (λ (k : Option (List ℕ)). Consumes k held' takes.0) so_far.1 takes.1)

-- a stop inside the line of a unit that was read
line_read : EachHasACut → (unit_place : UnitPlace) (info : ParseInfo) (rest bytes : List ℕ) (held' out mid out' : Option (List ℕ)) → HasRead unit_place rest bytes out mid → front_of unit_place rest ≡ Ok info → held' ≡ Some (drop (span_of info) rest)
    → AppendsFront mid out' (line_text unit_place.index unit_place.at info) → IsFrontListed bytes held' out out'
line_read each unit_place info rest bytes held' out mid out' h is holds part =
    let span = span_of info in
    let text = line_text unit_place.index unit_place.at info in
    let unit : UnitText = text_of info rest in
    let cut = each (after unit_place info) [] in
    let later = lines (after unit_place info) cut.0 in
    let behind : take span rest ++ [] ≡ take span rest = append-nil (take span rest) in
    let split : h.text ++ (text ++ later) ≡ (h.text ++ part.0) ++ (part.1 ++ later) =
    ap (λ l. h.text ++ (l ++ later)) part.2 ∙ ap (λ l. h.text ++ l) (append_assoc part.0 part.1 later)
    ∙ sym (append_assoc h.text part.0 (part.1 ++ later)) in
    record {
      read = h.read ++ take span rest;
      rest = drop span rest;
      parts = h.parts ∙ ap (λ l. h.read ++ l) (sym (take-append-drop span rest)) ∙ sym (append_assoc h.read (take span rest) (drop span rest));
      holds = holds;
      units = h.units ++ unit ∷ cut.0;
      end = cut.1;
      cut =
          h.cut (take span rest) (unit ∷ cut.0) cut.1
          (subst (λ (l : List ℕ). IsCut unit_place l (unit ∷ cut.0) cut.1) behind (cut_unit unit_place (after unit_place info) info rest [] cut.0 cut.1 is refl cut.2));
      listed = (h.text ++ part.0, part.1 ++ later, h.told (unit ∷ cut.0) ∙ split, Appends-trans out mid out' h.text part.0 h.written part.3);
    }

pub stops_at_line : EachHasACut → (unit : Unit) (old new : CuttingProgress) (first held held' out mid out' : Option (List ℕ)) → ReadsSoFar old first held out mid → GivesUnit false unit old new held held' → HoldsWhatFollows unit old held held'
    → AppendsFront mid out' (line_text unit.index unit.at unit.info) → IfSome first (λ bytes. IsFrontListed bytes held' out out')
stops_at_line each unit old new None held held' out mid out' so_far given holds front = tt
stops_at_line each unit old new (Some bytes) held held' out mid out' so_far given holds front =
    let told = told_at (prepend_known old.ahead held) so_far.0 (λ rest. IsFirstUnit false unit old.unit_place rest (prepend_known new.ahead held')) given.told so_far.1 in
    let held_here = told_at (prepend_known old.ahead held) so_far.0 (λ rest. held' ≡ Some (drop (span_of unit.info) rest)) holds so_far.1 in
    let front_here = subst (λ n. AppendsFront mid out' (line_text n old.unit_place.at unit.info)) given.index (subst (λ n. AppendsFront mid out' (line_text unit.index n unit.info)) given.at front) in
    line_read each old.unit_place unit.info so_far.0 bytes held' out mid out' so_far.2 told.0 held_here front_here

-- nothing of the line was written
pub none_of_line : (out : Option (List ℕ)) (text : List ℕ) → AppendsFront out out text
none_of_line out text = ([], text, refl, Appends-nil out)
