-- What a cut answers, of whatever is known of its input.
use Rattle.std.proofs.Common.{◌≡◌, ◌∙◌, ℕ, List, [], Option, None, Some, Result, Ok, Err, refl, sym, ap, subst}
use Rattle.std.specs.Prelude.{IfSome, OnOk}
use Rattle.std.specs.Io.KnownBytes.{Appends}
use Rattle.std.proofs.KnownBytes.{Appends-nil, Keeps-refl}
use Rattle.dirac_io.specs.declared.sink.Unwritten.{Unwritten}
use Rattle.dirac_io.specs.declared.sink.Unwritten.TheVariants as unwritten
use Rattle.dirac_io.specs.Writing.{AppendsFront}
use Rattle.dirac_units.specs.Cut.{EachHasACut, first_unit_place}
use Rattle.dirac_content.specs.StreamState.{stream_begun}
use Rattle.dirac_content.specs.Shown.{IsShown, Outcome, outcome}
use Rattle.dirac_edit_laws.specs.Cut.{cut_bytes, end_point}
use Rattle.dirac_edit_laws.specs.Texts.{SequenceText, points_of, with_pictures}
use Rattle.dirac_edit_laws.specs.Units.{sequences_bytes}
use Rattle.dirac_edit.specs.declared.answers.Edited.{Edited}
use Rattle.dirac_edit.specs.declared.answers.Edited.TheVariants as edited
use Rattle.dirac_edit.specs.Edits.{AnswersEdit, IsCutBy, ShowsPart, cut_refusal, written_unless_refused}
use Rattle.dirac_edit.specs.Steps.{IsCutPart, RefusesCut, StopsReading, ended_as}

-- nothing was written yet
pub nothing_yet : (taken : Option (List ℕ)) (all : List ℕ) → AppendsFront taken taken all
nothing_yet taken all = ([], all, refl, Appends-nil taken)

-- something is shown by all bytes
pub some_shown : EachHasACut → (bytes : List ℕ) → (o : Outcome) × IsShown bytes o
some_shown each bytes =
    let cut = each first_unit_place bytes in
    (outcome stream_begun first_unit_place cut.0 cut.1, record { units = cut.0; end = cut.1; cut = cut.2; same = refl })

-- the reading stopped
pub stopped_by : (answer : Edited) (refusal : Option Edited) (bytes : List ℕ) (out : Option (List ℕ)) → StopsReading answer → AnswersEdit answer refusal bytes out out
stopped_by edited.Done refusal bytes out stops = absurd stops
stopped_by (edited.Fault fault) refusal bytes out stops = absurd stops
stopped_by (edited.NoSuchPoint n) refusal bytes out stops = absurd stops
stopped_by (edited.OpenCut n) refusal bytes out stops = absurd stops
stopped_by edited.ReadFault refusal bytes out stops = Keeps-refl out
stopped_by edited.WriteFault refusal bytes out stops = absurd stops
stopped_by edited.NoMemory refusal bytes out stops = nothing_yet out (written_unless_refused refusal bytes)

pub reading_stopped : (held out : Option (List ℕ)) (from : ℕ) (to : Option ℕ) (answer : Edited) → EachHasACut → StopsReading answer → IfSome held (λ bytes. IsCutBy bytes from to answer out out)
reading_stopped None out from to answer each stops = tt
reading_stopped (Some bytes) out from to answer each stops =
    let shown : (o : Outcome) × IsShown bytes o = some_shown each bytes in
    let stream : IsShown bytes shown.0 = shown.1 in
    (shown.0, stream, stopped_by answer (cut_refusal shown.0.end stream.units from to) (cut_bytes stream.units from (end_point to (points_of stream.units))) out stops)

-- a refusal
refused_by : (answer : Edited) (bytes : List ℕ) (from : ℕ) (to : Option ℕ) (out : Option (List ℕ)) → RefusesCut bytes from to answer → IsCutBy bytes from to answer out out
refused_by edited.Done bytes from to out r = absurd r.reason
refused_by (edited.Fault fault) bytes from to out r = (r.outcome, r.stream, (r.reason, Keeps-refl out))
refused_by (edited.NoSuchPoint n) bytes from to out r = (r.outcome, r.stream, (r.reason, Keeps-refl out))
refused_by (edited.OpenCut n) bytes from to out r = (r.outcome, r.stream, (r.reason, Keeps-refl out))
refused_by edited.ReadFault bytes from to out r = absurd r.reason
refused_by edited.WriteFault bytes from to out r = absurd r.reason
refused_by edited.NoMemory bytes from to out r = (
  r.outcome,
  r.stream,
  nothing_yet out (written_unless_refused (cut_refusal r.outcome.end r.stream.units from to) (cut_bytes r.stream.units from (end_point to (points_of r.stream.units)))),
)

pub cut_refused : (held out : Option (List ℕ)) (bytes bytes' : List ℕ) (from : ℕ) (to : Option ℕ) (answer : Edited) → IfSome held (λ h. bytes ≡ h) → bytes' ≡ bytes → RefusesCut bytes' from to answer
    → IfSome held (λ h. IsCutBy h from to answer out out)
cut_refused None out bytes bytes' from to answer all same r = tt
cut_refused (Some h) out bytes bytes' from to answer all same r = subst (λ (bs : List ℕ). IsCutBy bs from to answer out out) (same ∙ all) (refused_by answer bytes' from to out r)

-- what is written is the cut
text_is : (bytes : List ℕ) (from : ℕ) (to : Option ℕ) (part part' : List SequenceText) → (p : IsCutPart bytes from to part) → part' ≡ part → sequences_bytes 0 (with_pictures part') ≡ cut_bytes p.stream.units from (end_point to (points_of p.stream.units))
text_is bytes from to part part' p same = ap (λ ss. sequences_bytes 0 (with_pictures ss)) same ∙ ap (sequences_bytes 0) p.same

-- the writing ended, however it did
written_as : (w : Result (Unit {0}) Unwritten) (refusal : Option Edited) (bytes : List ℕ) (out out' : Option (List ℕ)) → refusal ≡ None → OnOk w (Appends out out' bytes) → AppendsFront out out' bytes
    → AnswersEdit (ended_as w) refusal bytes out out'
written_as (Ok x) refusal bytes out out' none all front = (none, all)
written_as (Err unwritten.Failed) refusal bytes out out' none all front = (none, front)
written_as (Err unwritten.NoMemory) refusal bytes out out' none all front = subst (λ (r : Option Edited). AppendsFront out out' (written_unless_refused r bytes)) (sym none) front

pub ended_by : (answer : Edited) (w : Result (Unit {0}) Unwritten) (refusal : Option Edited) (bytes : List ℕ) (out out' : Option (List ℕ)) → answer ≡ ended_as w → refusal ≡ None → OnOk w (Appends out out' bytes)
    → AppendsFront out out' bytes → AnswersEdit answer refusal bytes out out'
ended_by answer w refusal bytes out out' is none all front = subst (λ (a : Edited). AnswersEdit a refusal bytes out out') (sym is) (written_as w refusal bytes out out' none all front)

pub cut_written : (held out out' : Option (List ℕ)) (bytes bytes' : List ℕ) (from : ℕ) (to : Option ℕ) (part part' : List SequenceText) (answer : Edited) (w : Result (Unit {0}) Unwritten) → IfSome held (λ h. bytes ≡ h)
    → bytes' ≡ bytes → IsCutPart bytes' from to part → part' ≡ part → answer ≡ ended_as w → OnOk w (Appends out out' (sequences_bytes 0 (with_pictures part')))
    → AppendsFront out out' (sequences_bytes 0 (with_pictures part')) → IfSome held (λ h. IsCutBy h from to answer out out')
cut_written None out out' bytes bytes' from to part part' answer w all same p parts is written front = tt
cut_written (Some h) out out' bytes bytes' from to part part' answer w all same p parts is written front =
    let units = p.stream.units in
    let text = text_is bytes' from to part part' p parts in
    subst (λ (bs : List ℕ). IsCutBy bs from to answer out out') (same ∙ all) (
      p.outcome,
      p.stream,
      ended_by answer w (cut_refusal p.outcome.end units from to) (cut_bytes units from (end_point to (points_of units))) out out' is p.allowed
          (subst (λ (bs : List ℕ). OnOk w (Appends out out' bs)) text written) (subst (λ (bs : List ℕ). AppendsFront out out' bs) text front),
    )

pub part_shows : (held : Option (List ℕ)) (bytes bytes' : List ℕ) (from : ℕ) (to : Option ℕ) (part : List SequenceText) (P : Type 0) → IfSome held (λ h. bytes ≡ h) → bytes' ≡ bytes → IsCutPart bytes' from to part
    → IfSome held (λ h. P → ShowsPart h from to)
part_shows None bytes bytes' from to part P all same p = tt
part_shows (Some h) bytes bytes' from to part P all same p = λ _. subst (λ (bs : List ℕ). ShowsPart bs from to) (same ∙ all) p.shows
