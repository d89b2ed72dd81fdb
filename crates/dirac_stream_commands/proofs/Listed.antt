-- How the lines of the units given so far begin those of the whole cut.
use Rattle.std.proofs.Common.{◌≡◌, ℕ, List, [], ◌∷◌, ◌++◌, drop, sym, ap, ◌∙◌, refl, subst, Option, None, Some, IfSome}
use Rattle.std.proofs.Common.{Ok, Err, append_assoc, append-nil}
use Rattle.std.specs.Prelude.{slice_range, false}
use Rattle.std.specs.Io.KnownBytes.{Appends, prepend_known}
use Rattle.std.proofs.KnownBytes.{Appends-trans, Appends-nil}
use Rattle.dirac_io.specs.Writing.{AppendsFront}
use Rattle.dirac_common.specs.declared.faults.Fault.{Fault}
use Rattle.dirac_units.specs.declared.info.ParseInfo.{ParseInfo}
use Rattle.dirac_units.specs.declared.unit.Unit.{Unit}
use Rattle.dirac_units.specs.declared.unit_place.UnitPlace.{UnitPlace}
use Rattle.dirac_units.specs.Info.{span_of}
use Rattle.dirac_units.specs.Cut.{UnitText, first_unit_place, after, front_of, IsCut, EachHasACut}
use Rattle.dirac_units.specs.Progress.{CuttingProgress, GivesUnit, Ends, IsFirstUnit}
use Rattle.dirac_command_line.specs.declared.ended.Ended.{Ended}
use Rattle.dirac_command_line.specs.declared.ended.Ended.TheVariants as ended
use Rattle.dirac_stream_commands.specs.Line.{lines, line_text}
use Rattle.dirac_stream_commands.specs.Listing.{IsListed, AnswersList}

-- these units were given and their lines written; what follows from the place on completes them
pub record IsListedTo (unit_place : UnitPlace) (rest bytes : List ℕ) (out out' : Option (List ℕ)) : Type 0 where
  pub text : List ℕ
  pub written : Appends out out' text
  pub completes : (units : List UnitText) (end : Option Fault) → IsCut unit_place rest units end
      → (all : List UnitText) × IsCut first_unit_place bytes all end × (lines first_unit_place all ≡ text ++ lines unit_place units)

-- before the first unit nothing is written
pub begun_listing : (bytes : List ℕ) (out : Option (List ℕ)) → IsListedTo first_unit_place bytes bytes out out
begun_listing bytes out = record {
  text = [];
  written = Appends-nil out;
  completes = λ units end cut. (units, cut, refl);
}

-- one more unit's line
pub one_more_line : (unit_place : UnitPlace) (info : ParseInfo) (rest bytes : List ℕ) (out mid out' : Option (List ℕ))
    → IsListedTo unit_place rest bytes out mid
    → front_of unit_place rest ≡ Ok info → Appends mid out' (line_text unit_place.index unit_place.at info)
    → IsListedTo (after unit_place info) (drop (span_of info) rest) bytes out out'
one_more_line unit_place info rest bytes out mid out' listed is line =
    let text = line_text unit_place.index unit_place.at info in
    record {
      text = listed.text ++ text;
      written = Appends-trans out mid out' listed.text text listed.written line;
      completes = λ units end cut.
          let unit : UnitText = record { info = info; payload = slice_range rest 13 (span_of info) } in
          let more = listed.completes (unit ∷ units) end (is, refl, cut) in
          (more.0, more.1, more.2 ∙ sym (append_assoc listed.text text (lines (after unit_place info) units)));
    }

-- the end, or a fault: all lines are written
pub ends_listing : (unit_place : UnitPlace) (rest bytes : List ℕ) (out out' : Option (List ℕ)) (end : Option Fault)
    → IsListedTo unit_place rest bytes out out'
    → front_of unit_place rest ≡ Err end
    → (units : List UnitText) × IsCut first_unit_place bytes units end × Appends out out' (lines first_unit_place units)
ends_listing unit_place rest bytes out out' end listed is =
    let whole = listed.completes [] end is in
    (whole.0, whole.1, subst (Appends out out') (sym (append-nil listed.text) ∙ sym whole.2) listed.written)

-- a stop between two units: what is written is a front of all lines
pub stops_listing : EachHasACut → (unit_place : UnitPlace) (rest bytes : List ℕ) (out out' : Option (List ℕ))
    → IsListedTo unit_place rest bytes out out'
    → (units : List UnitText) × (end : Option Fault) × IsCut first_unit_place bytes units end × AppendsFront out out' (lines first_unit_place units)
stops_listing each unit_place rest bytes out out' listed =
    let cut = each unit_place rest in
    let whole = listed.completes cut.0 cut.1 cut.2 in
    (whole.0, cut.1, whole.1, (listed.text, lines unit_place cut.0, whole.2, listed.written))

-- a stop inside a line
pub stops_in_line : EachHasACut
    → (unit_place : UnitPlace) (info : ParseInfo) (rest bytes : List ℕ) (out mid out' : Option (List ℕ))
    → IsListedTo unit_place rest bytes out mid
    → front_of unit_place rest ≡ Ok info → AppendsFront mid out' (line_text unit_place.index unit_place.at info)
    → (units : List UnitText) × (end : Option Fault) × IsCut first_unit_place bytes units end × AppendsFront out out' (lines first_unit_place units)
stops_in_line each unit_place info rest bytes out mid out' listed is part =
    let unit : UnitText = record { info = info; payload = slice_range rest 13 (span_of info) } in
    let cut = each (after unit_place info) (drop (span_of info) rest) in
    let whole = listed.completes (unit ∷ cut.0) cut.1 (is, refl, cut.2) in
    let later = lines (after unit_place info) cut.0 in
    let text = line_text unit_place.index unit_place.at info in
    let split : listed.text ++ (text ++ later) ≡ (listed.text ++ part.0) ++ (part.1 ++ later) =
    ap (λ l. listed.text ++ (l ++ later)) part.2 ∙ ap (λ l. listed.text ++ l) (append_assoc part.0 part.1 later)
    ∙ sym (append_assoc listed.text part.0 (part.1 ++ later)) in (
      whole.0,
      cut.1,
      whole.1,
      (listed.text ++ part.0, part.1 ++ later, whole.2 ∙ split, Appends-trans out mid out' listed.text part.0 listed.written part.3),
    )

-- the invariant of the loop over the units: the bytes that a source held at first, and how far their listing came
abbrev pub ListsSoFar : CuttingProgress → Option (List ℕ) → Option (List ℕ) → Option (List ℕ) → Option (List ℕ) → Type 0
ListsSoFar units first held out out' =
    IfSome first (λ bytes. (rest : List ℕ) × (prepend_known units.ahead held ≡ Some rest) × IsListedTo units.unit_place rest bytes out out')

some_same : {A : Type 0} (o : Option A) (a b : A) → o ≡ Some a → o ≡ Some b → a ≡ b
some_same o a b p q = cc

none_is_no_some : {A : Type 0} (o : Option A) (a : A) → o ≡ None → o ≡ Some a → ⊥
none_is_no_some o a p q = cc

pub begins : (first out : Option (List ℕ)) → IfSome first (λ bytes. (rest : List ℕ) × (prepend_known [] first ≡ Some rest) × IsListedTo first_unit_place rest bytes out out)
begins None out = tt
begins (Some bytes) out = (bytes, refl, begun_listing bytes out)

-- what is told of the bytes ahead and held, where they are these
pub told_at : (o : Option (List ℕ)) (rest : List ℕ) (P : List ℕ → Type 0) → IfSome o P → o ≡ Some rest → P rest
told_at None rest P told is = absurd (none_is_no_some None rest refl is)
told_at (Some xs) rest P told is = subst P (some_same (Some xs) xs rest refl is) told

pub goes_on : (unit : Unit) (old new : CuttingProgress) (first held held' out mid out' : Option (List ℕ))
    → ListsSoFar old first held out mid
    → GivesUnit false unit old new held held' → Appends mid out' (line_text unit.index unit.at unit.info)
    → ListsSoFar new first held' out out'
goes_on unit old new None held held' out mid out' so_far given line = tt
goes_on unit old new (Some bytes) held held' out mid out' so_far given line =
    let told = told_at (prepend_known old.ahead held) so_far.0 (λ rest. IsFirstUnit false unit old.unit_place rest (prepend_known new.ahead held')) given.told so_far.1 in
    let line_here = subst (λ n. Appends mid out' (line_text n old.unit_place.at unit.info)) given.index (subst (λ n. Appends mid out' (line_text unit.index n unit.info)) given.at line) in
    let more = one_more_line old.unit_place unit.info so_far.0 bytes out mid out' so_far.2 told.0 line_here in (
      drop (span_of unit.info) so_far.0,
      told.2,
      subst (λ unit_place. IsListedTo unit_place (drop (span_of unit.info) so_far.0) bytes out out') (sym given.next) more,
    )

-- the answer at the end, and at a fault
pub ends_done : (old : CuttingProgress) (first held held' out out' : Option (List ℕ)) → ListsSoFar old first held out out'
    → Ends old held held' None → IfSome first (λ bytes. IsListed bytes ended.Done out out')
ends_done old None held held' out out' so_far ends = tt
ends_done old (Some bytes) held held' out out' so_far ends =
    let is = told_at (prepend_known old.ahead held) so_far.0 (λ rest. front_of old.unit_place rest ≡ Err None) ends.told so_far.1 in
    let whole = ends_listing old.unit_place so_far.0 bytes out out' None so_far.2 is in
    (whole.0, None, whole.1, (refl, whole.2))

pub ends_faulty : (fault : Fault) (old : CuttingProgress) (first held held' out out' : Option (List ℕ))
    → ListsSoFar old first held out out'
    → Ends old held held' (Some fault) → IfSome first (λ bytes. IsListed bytes (ended.Fault fault) out out')
ends_faulty fault old None held held' out out' so_far ends = tt
ends_faulty fault old (Some bytes) held held' out out' so_far ends =
    let is = told_at (prepend_known old.ahead held) so_far.0 (λ rest. front_of old.unit_place rest ≡ Err (Some fault)) ends.told so_far.1 in
    let whole = ends_listing old.unit_place so_far.0 bytes out out' (Some fault) so_far.2 is in
    (whole.0, Some fault, whole.1, (refl, whole.2))

-- an answer of which only a front of the lines is promised
pub record Stops (answer : Ended) : Type 0 where
  pub front : (end : Option Fault) (text : List ℕ) (out out' : Option (List ℕ)) → AppendsFront out out' text
      → AnswersList answer end text out out'

pub at_read_fault : Stops ended.ReadFault
at_read_fault = record { front = λ end text out out' front. front }

pub at_write_fault : Stops ended.WriteFault
at_write_fault = record { front = λ end text out out' front. front }

pub at_no_memory : Stops ended.NoMemory
at_no_memory = record { front = λ end text out out' front. front }

pub stops_between : (answer : Ended) → Stops answer → EachHasACut
    → (old : CuttingProgress) (first held out out' : Option (List ℕ)) → ListsSoFar old first held out out'
    → IfSome first (λ bytes. IsListed bytes answer out out')
stops_between answer stops each old None held out out' so_far = tt
stops_between answer stops each old (Some bytes) held out out' so_far =
    let part = stops_listing each old.unit_place so_far.0 bytes out out' so_far.2 in
    (part.0, part.1, part.2, stops.front part.1 (lines first_unit_place part.0) out out' part.3)

pub stops_inside : (answer : Ended) → Stops answer → EachHasACut
    → (unit : Unit) (old new : CuttingProgress) (first held held' out mid out' : Option (List ℕ))
    → ListsSoFar old first held out mid → GivesUnit false unit old new held held'
    → AppendsFront mid out' (line_text unit.index unit.at unit.info)
    → IfSome first (λ bytes. IsListed bytes answer out out')
stops_inside answer stops each unit old new None held held' out mid out' so_far given front = tt
stops_inside answer stops each unit old new (Some bytes) held held' out mid out' so_far given front =
    let told = told_at (prepend_known old.ahead held) so_far.0 (λ rest. IsFirstUnit false unit old.unit_place rest (prepend_known new.ahead held')) given.told so_far.1 in
    let front_here = subst (λ n. AppendsFront mid out' (line_text n old.unit_place.at unit.info)) given.index (subst (λ n. AppendsFront mid out' (line_text unit.index n unit.info)) given.at front) in
    let part = stops_in_line each old.unit_place unit.info so_far.0 bytes out mid out' so_far.2 told.0 front_here in
    (part.0, part.1, part.2, stops.front part.1 (lines first_unit_place part.0) out out' part.3)
