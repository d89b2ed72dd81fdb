-- What a joining answers, of whatever is known of its input.
use Rattle.std.proofs.Common.{◌≡◌, ◌∙◌, ℕ, ◌<◌, ◌^◌, List, Option, None, Some, Result, sym, ap, subst}
use Rattle.std.specs.Prelude.{IfSome, OnOk}
use Rattle.std.specs.List.{AllByRecursion}
use Rattle.std.specs.Io.KnownBytes.{Appends}
use Rattle.std.proofs.KnownBytes.{Keeps-refl}
use Rattle.dirac_io.specs.declared.sink.Unwritten.{Unwritten}
use Rattle.dirac_io.specs.Writing.{AppendsFront}
use Rattle.dirac_common.specs.declared.faults.Fault.{Fault}
use Rattle.dirac_units.specs.Cut.{EachHasACut, UnitText, first_unit_place}
use Rattle.dirac_content.specs.Raw.{raws}
use Rattle.dirac_content.specs.StreamState.{stream_begun}
use Rattle.dirac_content.specs.Shown.{IsShown, Outcome, outcome}
use Rattle.dirac_edit_laws.specs.Joined.{bytes_or_bare, joined_sequences, joined_bytes}
use Rattle.dirac_edit_laws.specs.Laws.{JoinedStreamsShowTheSame}
use Rattle.dirac_edit_laws.specs.Texts.{SequenceText, sequences}
use Rattle.dirac_edit.specs.declared.answers.Edited.{Edited}
use Rattle.dirac_edit.specs.declared.answers.Edited.TheVariants as edited
use Rattle.dirac_edit.specs.Edits.{AnswersEdit, IsAnswerOfJoining, IsJoinedBy, JoinedShowsSame, join_refusal, written_unless_refused}
use Rattle.dirac_edit.specs.Kept.{kept_of}
use Rattle.dirac_edit.specs.Steps.{IsChecked, IsReason, IsStreamRefused, IsJoinable, RefusesJoin, StopsReading, ended_as}
use Rattle.dirac_edit.proofs.Answering.{ended_by, nothing_yet, some_shown, stopped_by}
use Rattle.dirac_edit.proofs.Checking.{ends_well, faultless}
use Rattle.dirac_edit.proofs.Keeping.{all_kept}

-- ---- what was read

-- what joined bytes show, of the bytes themselves
shows_same : (bytes : List ℕ) (units : List UnitText) → JoinedStreamsShowTheSame → AllByRecursion (λ b. b < 2 ^ 8) bytes → IsChecked bytes units → JoinedShowsSame bytes
shows_same bytes units law below c =
    let shown = law bytes units (faultless bytes units below c) in
    let good : (outcome stream_begun first_unit_place c.stream.units c.stream.end).end ≡ None = ap (λ (o : Outcome). o.end) c.stream.same ∙ c.none in
    let last : c.stream.end ≡ None = ends_well c.stream.units stream_begun first_unit_place c.stream.end good in
    let same : raws (outcome stream_begun first_unit_place units None).shown ≡ raws c.outcome.shown =
    ap (λ (us : List UnitText). raws (outcome stream_begun first_unit_place us None).shown) (sym c.same)
    ∙ ap (λ (e : Option Fault). raws (outcome stream_begun first_unit_place c.stream.units e).shown) (sym last)
    ∙ ap (λ (o : Outcome). raws o.shown) c.stream.same in (
      c.outcome,
      c.stream,
      shown.0,
      subst (λ (us : List UnitText). IsShown (joined_bytes us) shown.0) (sym c.same) shown.1,
      shown.2 ∙ same,
      shown.3,
    )

pub whole_kept : (bytes : List ℕ) (units units' : List UnitText) (kept : List SequenceText) → JoinedStreamsShowTheSame → AllByRecursion (λ b. b < 2 ^ 8) bytes → IsChecked bytes units → units' ≡ units
    → kept ≡ kept_of None units' → IsJoinable bytes kept
whole_kept bytes units units' kept law below c same is = record {
  outcome = c.outcome;
  stream = c.stream;
  allowed = ap join_refusal c.none;
  shows = shows_same bytes units law below c;
  same = is ∙ all_kept units' ∙ ap sequences (same ∙ sym c.same);
}

pub join_refused_by : (bytes : List ℕ) (answer : Edited) → IsStreamRefused bytes answer → RefusesJoin bytes answer
join_refused_by bytes edited.Done refused = absurd refused
join_refused_by bytes (edited.Fault fault) refused = record { outcome = refused.0; stream = refused.1; reason = ap join_refusal refused.2 }
join_refused_by bytes (edited.NoSuchPoint n) refused = absurd refused
join_refused_by bytes (edited.OpenCut n) refused = absurd refused
join_refused_by bytes edited.ReadFault refused = absurd refused
join_refused_by bytes edited.WriteFault refused = absurd refused
join_refused_by bytes edited.NoMemory refused = record { outcome = refused.0; stream = refused.1; reason = tt }

-- ---- answers

-- the reading stopped
pub join_stopped : (held out : Option (List ℕ)) (answer : Edited) → EachHasACut → StopsReading answer → IfSome held (λ bytes. IsJoinedBy bytes answer out out)
join_stopped None out answer each stops = tt
join_stopped (Some bytes) out answer each stops =
    let shown : (o : Outcome) × IsShown bytes o = some_shown each bytes in
    let stream : IsShown bytes shown.0 = shown.1 in
    (shown.0, stream, stopped_by answer (join_refusal shown.0.end) (joined_bytes stream.units) out stops)

pub stop_named : (answer : Edited) → StopsReading answer → IsAnswerOfJoining answer
stop_named edited.Done stops = absurd stops
stop_named (edited.Fault fault) stops = absurd stops
stop_named (edited.NoSuchPoint n) stops = absurd stops
stop_named (edited.OpenCut n) stops = absurd stops
stop_named edited.ReadFault stops = tt
stop_named edited.WriteFault stops = absurd stops
stop_named edited.NoMemory stops = tt

-- a refusal
reason_answers : (answer : Edited) (refusal : Option Edited) (bytes : List ℕ) (out : Option (List ℕ)) → IsReason answer refusal → AnswersEdit answer refusal bytes out out
reason_answers edited.Done refusal bytes out reason = absurd reason
reason_answers (edited.Fault fault) refusal bytes out reason = (reason, Keeps-refl out)
reason_answers (edited.NoSuchPoint n) refusal bytes out reason = (reason, Keeps-refl out)
reason_answers (edited.OpenCut n) refusal bytes out reason = (reason, Keeps-refl out)
reason_answers edited.ReadFault refusal bytes out reason = absurd reason
reason_answers edited.WriteFault refusal bytes out reason = absurd reason
reason_answers edited.NoMemory refusal bytes out reason = nothing_yet out (written_unless_refused refusal bytes)

pub join_refused : (held out : Option (List ℕ)) (bytes bytes' : List ℕ) (answer : Edited) → IfSome held (λ h. bytes ≡ h) → bytes' ≡ bytes → RefusesJoin bytes' answer → IfSome held (λ h. IsJoinedBy h answer out out)
join_refused None out bytes bytes' answer all same r = tt
join_refused (Some h) out bytes bytes' answer all same r =
    subst (λ (bs : List ℕ). IsJoinedBy bs answer out out) (same ∙ all)
    (r.outcome, r.stream, reason_answers answer (join_refusal r.outcome.end) (joined_bytes r.stream.units) out r.reason)

named_by : (answer : Edited) (end : Option Fault) → IsReason answer (join_refusal end) → IsAnswerOfJoining answer
named_by edited.Done end reason = tt
named_by (edited.Fault fault) end reason = tt
named_by (edited.NoSuchPoint n) None reason = absurd cc
named_by (edited.NoSuchPoint n) (Some fault) reason = absurd cc
named_by (edited.OpenCut n) None reason = absurd cc
named_by (edited.OpenCut n) (Some fault) reason = absurd cc
named_by edited.ReadFault end reason = tt
named_by edited.WriteFault end reason = tt
named_by edited.NoMemory end reason = tt

pub refusal_named : (bytes : List ℕ) (answer : Edited) → RefusesJoin bytes answer → IsAnswerOfJoining answer
refusal_named bytes answer r = named_by answer r.outcome.end r.reason

-- what is written
text_is : (bytes : List ℕ) (all all' : List SequenceText) → (w : IsJoinable bytes all) → all' ≡ all → bytes_or_bare all' (joined_sequences all') ≡ joined_bytes w.stream.units
text_is bytes all all' w same = ap (λ (ss : List SequenceText). bytes_or_bare ss (joined_sequences ss)) (same ∙ w.same)

pub join_written : (held out out' : Option (List ℕ)) (bytes bytes' : List ℕ) (all all' : List SequenceText) (answer : Edited) (w : Result (Unit {0}) Unwritten) → IfSome held (λ h. bytes ≡ h) → bytes' ≡ bytes → IsJoinable bytes' all
    → all' ≡ all → answer ≡ ended_as w → OnOk w (Appends out out' (bytes_or_bare all' (joined_sequences all'))) → AppendsFront out out' (bytes_or_bare all' (joined_sequences all')) → IfSome held (λ h. IsJoinedBy h answer out out')
join_written None out out' bytes bytes' all all' answer w is same whole sequences ended written front = tt
join_written (Some h) out out' bytes bytes' all all' answer w is same whole sequences ended written front =
    let text = text_is bytes' all all' whole sequences in
    subst (λ (bs : List ℕ). IsJoinedBy bs answer out out') (same ∙ is) (
      whole.outcome,
      whole.stream,
      ended_by answer w (join_refusal whole.outcome.end) (joined_bytes whole.stream.units) out out' ended whole.allowed
          (subst (λ (bs : List ℕ). OnOk w (Appends out out' bs)) text written) (subst (λ (bs : List ℕ). AppendsFront out out' bs) text front),
    )

pub join_shows : (held : Option (List ℕ)) (bytes bytes' : List ℕ) (all : List SequenceText) (P : Type 0) → IfSome held (λ h. bytes ≡ h) → bytes' ≡ bytes → IsJoinable bytes' all → IfSome held (λ h. P → JoinedShowsSame h)
join_shows None bytes bytes' all P is same w = tt
join_shows (Some h) bytes bytes' all P is same w = λ _. subst (λ (bs : List ℕ). JoinedShowsSame bs) (same ∙ is) w.shows
