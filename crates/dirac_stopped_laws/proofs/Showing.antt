-- What streams show that stop before a picture.
use Rattle.std.proofs.Common.{◌≡◌, ℕ, if◌then◌else◌, Bool, true, false, List, [], ◌∷◌, ◌++◌, refl, sym, ap, ap₂, ◌∙◌, subst, append_assoc, None, Some, Ok, Err, Option, Result}
use Rattle.dirac_common.specs.declared.faults.Cause.TheVariants.{SequenceChanged}
use Rattle.dirac_common.specs.declared.faults.Fault.{Fault}
use Rattle.dirac_common.specs.declared.faults.Refusal.{Refusal}
use Rattle.dirac_common.specs.declared.picture.Picture.{Picture}
use Rattle.dirac_types.specs.declared.settings.Settings.{Settings}
use Rattle.dirac_units.specs.declared.unit_place.UnitPlace.{UnitPlace}
use Rattle.dirac_units.specs.Cut.{UnitText, after, first_unit_place}
use Rattle.dirac_units.specs.Writing.{IsReadAsWritten}
use Rattle.dirac_sequence_header.specs.Grammar.{sequence_read}
use Rattle.dirac_sequence.specs.Written.{sequence_of, sequence_payload}
use Rattle.dirac_picture.specs.declared.coded.CodedPicture.{CodedPicture}
use Rattle.dirac_picture.specs.Grammar.{is_intra, picture_read}
use Rattle.dirac_plan_laws.specs.Headers.{IsPictureCode}
use Rattle.dirac_refs.specs.declared.waiting.Waiting.{Waiting}
use Rattle.dirac_refs.specs.Delivery.{delivered, in_delivery_order, flushed, key_of}
use Rattle.dirac_refs.specs.References.{committed}
use Rattle.dirac_content.specs.declared.opened.Opened.{Opened}
use Rattle.dirac_content.specs.Content.{rebuilt}
use Rattle.dirac_content.specs.Sequences.{flushed_behind}
use Rattle.dirac_content.specs.Shown.{Outcome, follows, outcome, with_front}
use Rattle.dirac_content.specs.StreamState.{StreamState, StreamStep, as_reference, stream_begun, content, first_or, header_step, shown_or_refused, opening, passed, picture_step, shows, staying, unit_step}
use Rattle.dirac_encode_laws.specs.Coding.{Made, keyed_reconstructions, refs_after, waiting_of}
use Rattle.dirac_encode_laws.specs.Laws.{AreMade, Begins, IsMade}
use Rattle.dirac_encode_laws.specs.Stream.{header_text, header_texts, last_length, picture_length, picture_text}
use Rattle.dirac_encode_laws.proofs.Headers.{header_read}
use Rattle.dirac_encode_laws.proofs.Showing.{each_unit, same_header}
use Rattle.dirac_stopped_laws.specs.Stopped.{StoppedStreamsShowTheirPictures, end_missing, texts_before, texts_of}
use Rattle.dirac_stopped_laws.proofs.Cutting.{stopped_cut}

-- ---- the content of units

opened_by : Settings → Opened
opened_by t = record { header = sequence_payload t; sequence = sequence_of t }

-- the stream so far: its sequence is open, these pictures are listed, and these wait
record Going (t : Settings) (refs : List Picture) (waiting : List Waiting) (state : StreamState) : Type 0 where
  pub opened : state.opened ≡ Some (opened_by t)
  pub listed : state.list ≡ refs
  pub waits : state.waiting ≡ waiting

repeats : (t : Settings) (state : StreamState) → state.opened ≡ Some (opened_by t) → unit_step state 0x00 (sequence_payload t) ≡ Ok (staying state)
unfolding unit_step opened_by
repeats t state e =
    let answer : Bool → Result StreamStep Refusal = λ same. if same then Ok (staying state) else Err (record { at = 0; cause = SequenceChanged }) in
    ap (λ o. header_step state o (sequence_payload t)) e ∙ ap answer (same_header (sequence_payload t))

opens : (t : Settings) → sequence_read (sequence_payload t) ≡ Ok (sequence_of t) → unit_step stream_begun 0x00 (sequence_payload t) ≡ Ok (staying (record stream_begun { opened = Some (opened_by t); first = None }))
unfolding unit_step opened_by
opens t read = ap (opening stream_begun (sequence_payload t)) read

adds : (t : Settings) (code : ℕ) (payload : List ℕ) (coded : CodedPicture) (state : StreamState) → state.opened ≡ Some (opened_by t) → IsPictureCode code
    → picture_read code (sequence_of t) state.list payload ≡ Ok coded → unit_step state code payload ≡ Ok (shows state coded (rebuilt (sequence_of t) state.list coded))
unfolding unit_step opened_by
adds t code payload coded state e is read =
    ap (λ (b : Bool). if b then content state code payload else Ok (passed state code)) is.read
    ∙ ap (λ (b : Bool). if b then header_step state state.opened payload else picture_step state state.opened code payload) is.other
    ∙ ap (λ o. picture_step state o code payload) e ∙ ap (shown_or_refused state (opened_by t)) read

outcome_more : (state : StreamState) (unit_place : UnitPlace) (unit : UnitText) (units : List UnitText) (end : Option Fault) (m : StreamStep) → unit_step state unit.info.code unit.payload ≡ Ok m
    → outcome state unit_place (unit ∷ units) end ≡ with_front m.gone (outcome m.state (after unit_place unit.info) units end)
unfolding outcome
outcome_more state unit_place unit units end m e = ap (follows state unit_place (λ next. outcome next (after unit_place unit.info) units end)) e

-- ---- what comes out

-- these pictures, up to this end
record ShowsTo (end : Option Fault) (o : Outcome) (pictures : List Picture) : Type 0 where
  pub shown : o.shown ≡ pictures
  pub last : o.end ≡ end

-- all that wait leave at the end
shows_end : (end : Option Fault) (waiting : List Waiting) (unit_place : UnitPlace) (state : StreamState) → state.waiting ≡ waiting → ShowsTo end (outcome state unit_place [] end) (flushed_behind waiting [])
unfolding outcome
shows_end end waiting unit_place state waits = record { shown = ap flushed waits; last = refl }

-- a sequence header that stands before an intra picture
shows_header : (end : Option Fault) (t : Settings) (previous : ℕ) (b : Bool) (unit_place : UnitPlace) (state : StreamState) (units : List UnitText) (pictures : List Picture) → state.opened ≡ Some (opened_by t)
    → ((next : UnitPlace) → ShowsTo end (outcome state next units end) pictures) → ShowsTo end (outcome state unit_place ((if b then header_text t previous ∷ [] else []) ++ units) end) pictures
unfolding header_text
shows_header end t previous true unit_place state units pictures opened more =
    let header = header_text t previous in
    let rest = more (after unit_place header.info) in
    let step = outcome_more state unit_place header units end (staying state) (repeats t state opened) in
    record { shown = ap (λ (o : Outcome). o.shown) step ∙ rest.shown; last = ap (λ (o : Outcome). o.end) step ∙ rest.last }
shows_header end t previous false unit_place state units pictures opened more = more unit_place

-- the last sequence header
shows_last : (end : Option Fault) (t : Settings) (previous : ℕ) (b : Bool) (waiting : List Waiting) (unit_place : UnitPlace) (state : StreamState) → state.opened ≡ Some (opened_by t) → state.waiting ≡ waiting
    → ShowsTo end (outcome state unit_place (if b then header_text t previous ∷ [] else []) end) (flushed_behind waiting [])
unfolding header_text
shows_last end t previous true waiting unit_place state opened waits =
    let header = header_text t previous in
    let rest = shows_end end waiting (after unit_place header.info) state waits in
    let step = outcome_more state unit_place header [] end (staying state) (repeats t state opened) in
    record { shown = ap (λ (o : Outcome). o.shown) step ∙ rest.shown; last = ap (λ (o : Outcome). o.end) step ∙ rest.last }
shows_last end t previous false waiting unit_place state opened waits = shows_end end waiting unit_place state waits

-- one picture more
shows_one : (end : Option Fault) (t : Settings) (m : Made) (refs : List Picture) (waiting rest : List Waiting) (previous : ℕ) (unit_place : UnitPlace) (state : StreamState) (units : List UnitText)
    → Going t refs waiting state → first_or state.first m.shown.number ≡ 0 → IsMade t refs m
    → ((next : UnitPlace) (later : StreamState) → Going t (refs_after refs m) (delivered (waiting ++ waiting_of m ∷ [])).waiting later → later.first ≡ Some 0
    → ShowsTo end (outcome later next units end) (flushed_behind (delivered (waiting ++ waiting_of m ∷ [])).waiting rest))
    → ShowsTo end (outcome state unit_place (picture_text t m previous ∷ units) end) (flushed_behind waiting (waiting_of m ∷ rest))
unfolding picture_text
shows_one end t m refs waiting rest previous unit_place state units g first is more =
    let text = picture_text t m previous in
    let mv = shows state m.coded m.shown in
    let now = delivered (waiting ++ waiting_of m ∷ []) in
    let read : picture_read m.coded.code (sequence_of t) state.list m.payload ≡ Ok m.coded = ap (λ l. picture_read m.coded.code (sequence_of t) l m.payload) g.listed ∙ is.read in
    let same : rebuilt (sequence_of t) state.list m.coded ≡ m.shown = ap (λ l. rebuilt (sequence_of t) l m.coded) g.listed ∙ sym is.shows in
    let moves : unit_step state m.coded.code m.payload ≡ Ok mv = adds t m.coded.code m.payload m.coded state g.opened is.fits.code read ∙ ap (λ p. Ok (shows state m.coded p)) same in
    let push : List Waiting → ℕ → List Waiting = λ ws k. ws ++ record { key = key_of k m.shown.number; picture = m.shown } ∷ [] in
    let all : push state.waiting (first_or state.first m.shown.number) ≡ waiting ++ waiting_of m ∷ [] = ap₂ push g.waits first in
    let going : Going t (refs_after refs m) now.waiting mv.state = record {
      opened = g.opened;
      listed = ap (λ l. committed l m.coded.header.retire (as_reference m.coded.code m.shown)) g.listed;
      waits = ap (λ ws. (delivered ws).waiting) all;
    } in
    let gone : mv.gone ≡ now.gone = ap (λ ws. (delivered ws).gone) all in
    let others = more (after unit_place text.info) mv.state going (ap Some first) in
    let step = outcome_more state unit_place text units end mv moves in
    record {
      shown =
          ap (λ (o : Outcome). o.shown) step ∙ ap (λ l. mv.gone ++ l) others.shown ∙ ap (λ l. l ++ flushed_behind now.waiting rest) gone
          ∙ sym (append_assoc now.gone _ _);
      last = ap (λ (o : Outcome). o.end) step ∙ others.last;
    }

shows_from : (end : Option Fault) (t : Settings) (ms : List Made) (x : Made) (refs : List Picture) (waiting : List Waiting) (previous : ℕ) (unit_place : UnitPlace) (state : StreamState) → Going t refs waiting state → state.first ≡ Some 0 → AreMade t refs ms
    → ShowsTo end (outcome state unit_place (texts_of t previous ms ++ header_texts t x (last_length previous ms)) end) (flushed_behind waiting (keyed_reconstructions ms))
shows_from end t [] x refs waiting previous unit_place state g first all = shows_last end t previous (is_intra x.coded.code) waiting unit_place state g.opened g.waits
shows_from end t (m ∷ ms) x refs waiting previous unit_place state g first all =
    let units = texts_of t (picture_length m) ms ++ header_texts t x (last_length (picture_length m) ms) in
    let now = delivered (waiting ++ waiting_of m ∷ []) in
    subst (λ (us : List UnitText). ShowsTo end (outcome state unit_place us end) (flushed_behind waiting (keyed_reconstructions (m ∷ ms)))) (sym (append_assoc (header_texts t m previous) (picture_text t m previous ∷ texts_of t (picture_length m) ms) (header_texts t x (last_length (picture_length m) ms))))
    (shows_header end t previous (is_intra m.coded.code) unit_place state (picture_text t m previous ∷ units) (flushed_behind waiting (keyed_reconstructions (m ∷ ms))) g.opened
    (λ next. shows_one end t m refs waiting (keyed_reconstructions ms) previous next state units g (ap (λ o. first_or o m.shown.number) first) all.0
    (λ next' later g' first'. shows_from end t ms x (refs_after refs m) now.waiting (picture_length m) next' later g' first' all.1)))

-- ---- the whole stream

first_course : Settings → StreamState
first_course t = record stream_begun { opened = Some (opened_by t); first = None }

first_going : (t : Settings) → Going t [] [] (first_course t)
unfolding first_course
first_going t = record { opened = refl; listed = refl; waits = refl }

-- behind the first sequence header
shows_all : (end : Option Fault) (t : Settings) (pictures : List Picture) (units : List UnitText) → sequence_read (sequence_payload t) ≡ Ok (sequence_of t)
    → ((next : UnitPlace) → ShowsTo end (outcome (first_course t) next units end) pictures) → ShowsTo end (outcome stream_begun first_unit_place (header_text t 0 ∷ units) end) pictures
unfolding first_course header_text
shows_all end t pictures units read more =
    let rest = more (after first_unit_place (header_text t 0).info) in
    let step = outcome_more stream_begun first_unit_place (header_text t 0) units end (staying (first_course t)) (opens t read) in
    record { shown = ap (λ (o : Outcome). o.shown) step ∙ rest.shown; last = ap (λ (o : Outcome). o.end) step ∙ rest.last }

-- before the first picture there is at most its sequence header
shows_none : (end : Option Fault) (t : Settings) (b : Bool) → sequence_read (sequence_payload t) ≡ Ok (sequence_of t) → ShowsTo end (outcome stream_begun first_unit_place (if b then header_text t 0 ∷ [] else []) end) (in_delivery_order [])
unfolding first_course
shows_none end t true read = shows_all end t (in_delivery_order []) [] read (λ next. shows_end end [] next (first_course t) refl)
shows_none end t false read = shows_end end [] first_unit_place stream_begun refl

shows_stream : (end : Option Fault) (t : Settings) (ms : List Made) (x : Made) → sequence_read (sequence_payload t) ≡ Ok (sequence_of t) → AreMade t [] ms → Begins ms → ShowsTo end (outcome stream_begun first_unit_place (texts_before t ms x) end) (in_delivery_order (keyed_reconstructions ms))
unfolding first_course
shows_stream end t [] x read all begins = shows_none end t (is_intra x.coded.code) read
shows_stream end t (m ∷ ms) x read all begins =
    let units = texts_of t (picture_length m) ms ++ header_texts t x (last_length (picture_length m) ms) in
    let now = delivered ([] ++ waiting_of m ∷ []) in
    let first : first_or None m.shown.number ≡ 0 = ap (λ (p : Picture). p.number) all.0.shows ∙ begins.1 in
    let told : Bool → List UnitText = λ b. ((if b then header_text t 0 ∷ [] else []) ++ picture_text t m 0 ∷ texts_of t (picture_length m) ms) ++ header_texts t x (last_length (picture_length m) ms) in
    subst (λ (us : List UnitText). ShowsTo end (outcome stream_begun first_unit_place us end) (in_delivery_order (keyed_reconstructions (m ∷ ms)))) (ap told (sym begins.0))
    (shows_all end t (in_delivery_order (keyed_reconstructions (m ∷ ms))) (picture_text t m 0 ∷ units) read
    (λ next. shows_one end t m [] [] (keyed_reconstructions ms) 0 next (first_course t) units (first_going t) first all.0
    (λ next' later g' first'. shows_from end t ms x (refs_after [] m) now.waiting (picture_length m) next' later g' first' all.1)))

pub stopped_shown : IsReadAsWritten → StoppedStreamsShowTheirPictures
stopped_shown written t ms m accepted all begins =
    let units = texts_before t ms m in
    let end = Some (end_missing t ms m) in
    let is = shows_stream end t ms m (header_read t accepted) all begins in
    (outcome stream_begun first_unit_place units end, record { units = units; end = end; cut = stopped_cut written t ms m (each_unit t [] ms all); same = refl }, is.shown, is.last)
