-- What a stream of coded pictures shows.
use Rattle.std.proofs.Common.{◌≡◌, ℕ, ◌+◌, ◌<◌, ◌^◌, ◌==◌, if◌then◌else◌, Bool, true, false, List, [], ◌∷◌, ◌++◌, length, refl, sym, ap, ap₂, ◌∙◌, subst, arith, append_assoc, append-nil, None, Some, Ok, Err, Result, eq-eqb}
use Rattle.std.specs.Prelude.{nat_eq}
use Rattle.std.specs.List.{AllByRecursion, starts_with}
use Rattle.std.proofs.lemmas.Bool.{le-leb, and_from}
use Rattle.dirac_common.specs.declared.faults.Cause.TheVariants.{SequenceChanged}
use Rattle.dirac_common.specs.declared.faults.Refusal.{Refusal}
use Rattle.dirac_common.specs.declared.picture.Picture.{Picture}
use Rattle.dirac_types.specs.declared.settings.Settings.{Settings}
use Rattle.dirac_types.specs.Settings.{IsAccepted}
use Rattle.dirac_units.specs.declared.unit_place.UnitPlace.{UnitPlace}
use Rattle.dirac_units.specs.Cut.{UnitText, IsCut, after, first_unit_place}
use Rattle.dirac_units.specs.Info.{IsLawful}
use Rattle.dirac_units.specs.Writing.{info_bytes, IsReadAsWritten}
use Rattle.dirac_sequence_header.specs.Grammar.{sequence_read}
use Rattle.dirac_sequence.specs.Written.{sequence_of, sequence_payload}
use Rattle.dirac_picture.specs.declared.coded.CodedPicture.{CodedPicture}
use Rattle.dirac_picture.specs.Grammar.{is_intra, picture_read}
use Rattle.dirac_refs.specs.declared.waiting.Waiting.{Waiting}
use Rattle.dirac_refs.specs.Delivery.{delivered, in_delivery_order, flushed, key_of}
use Rattle.dirac_refs.specs.References.{committed}
use Rattle.dirac_content.specs.declared.opened.Opened.{Opened}
use Rattle.dirac_content.specs.Content.{rebuilt}
use Rattle.dirac_content.specs.StreamState.{StreamState, StreamStep, as_reference, stream_begun, content, first_or, header_step, is_same, shown_or_refused, unit_step, opening, passed, picture_step, shows, staying}
use Rattle.dirac_content.specs.Sequences.{flushed_behind}
use Rattle.dirac_content.specs.Shown.{Outcome, follows, outcome, with_front}
use Rattle.dirac_encode_laws.specs.Coding.{Made, keyed_reconstructions, refs_after, waiting_of}
use Rattle.dirac_encode_laws.specs.Laws.{AreMade, Begins, IsMade, StreamsShowTheirPictures}
use Rattle.dirac_encode_laws.specs.Stream.{IsUnit, StreamsAreCut, end_info, end_text, end_unit, header_before, header_length, header_text, header_unit, info_for, last_length, picture_length, picture_text, picture_unit, unit, units_from, units_in, units_of}
use Rattle.dirac_encode_laws.proofs.Cutting.{nothing_left, one_cut, unit_front_is}
use Rattle.dirac_encode_laws.proofs.Headers.{header_read, header_short}
use Rattle.dirac_plan_laws.specs.Headers.{IsPictureCode}

-- ---- the units

pub header_lawful : (previous : ℕ) (payload : List ℕ) → IsLawful (info_for 0x00 previous payload)
header_lawful previous payload = rw (le-leb 13 (13 + length payload) (omega arith)) refl

picture_lawful : (code previous : ℕ) (payload : List ℕ) → IsPictureCode code → IsLawful (info_for code previous payload)
picture_lawful code previous payload is = rw (is.kind, le-leb 13 (13 + length payload) (omega arith)) refl

header_cut : IsReadAsWritten → (t : Settings) (previous : ℕ) (unit_place : UnitPlace) (rest : List ℕ) (units : List UnitText) → previous < 2 ^ 32
    → IsCut (after unit_place (info_for 0x00 previous (sequence_payload t))) rest units None
    → IsCut unit_place (header_unit t previous ++ rest) (header_text t previous ∷ units) None
unfolding header_text
header_cut written t previous unit_place rest units small more =
    let info = info_for 0x00 previous (sequence_payload t) in
    one_cut unit_place info (sequence_payload t) rest units None
    (unit_front_is written unit_place info (sequence_payload t) rest (omega arith) (header_short t) small (header_lawful previous (sequence_payload t))) more

pub picture_cut : IsReadAsWritten → (code previous : ℕ) (payload : List ℕ) (unit_place : UnitPlace) (rest : List ℕ) (units : List UnitText) → IsPictureCode code → 13 + length payload < 2 ^ 32 → previous < 2 ^ 32
    → IsCut (after unit_place (info_for code previous payload)) rest units None
    → IsCut unit_place (unit code previous payload ++ rest) (record { info = info_for code previous payload; payload = payload } ∷ units) None
picture_cut written code previous payload unit_place rest units is short small more =
    let info = info_for code previous payload in
    one_cut unit_place info payload rest units None
    (unit_front_is written unit_place info payload rest (omega arith) short small (picture_lawful code previous payload is)) more

end_cut : IsReadAsWritten → (previous : ℕ) (unit_place : UnitPlace) → previous < 2 ^ 32 → IsCut unit_place (end_unit previous) (end_text previous ∷ []) None
unfolding end_text
end_cut written previous unit_place small =
    let info = end_info previous in
    let whole : (info_bytes info ++ []) ++ [] ≡ info_bytes info = append-nil (info_bytes info ++ []) ∙ append-nil (info_bytes info) in
    subst (λ (l : List ℕ). IsCut unit_place l (record { info = info; payload = [] } ∷ []) None) whole
    (one_cut unit_place info [] [] [] None (unit_front_is written unit_place info [] [] refl (omega arith) small refl) (nothing_left (after unit_place info) refl))

-- a picture with the header that stands before an intra picture
both_by : IsReadAsWritten → (t : Settings) (code previous : ℕ) (payload : List ℕ) (b : Bool) (unit_place : UnitPlace) (rest : List ℕ) (units : List UnitText) → IsPictureCode code → 13 + length payload < 2 ^ 32 → previous < 2 ^ 32
    → ((next : UnitPlace) → IsCut next rest units None)
    → IsCut unit_place (((if b then header_unit t previous else []) ++ unit code (if b then header_length t else previous) payload) ++ rest)
    ((if b then header_text t previous ∷ [] else []) ++ record { info = info_for code (if b then header_length t else previous) payload; payload = payload } ∷ units) None
both_by written t code previous payload true unit_place rest units is short small more =
    let next = after unit_place (info_for 0x00 previous (sequence_payload t)) in
    let text : UnitText = record { info = info_for code (header_length t) payload; payload = payload } in
    subst (λ (l : List ℕ). IsCut unit_place l (header_text t previous ∷ text ∷ units) None) (sym (append_assoc (header_unit t previous) (unit code (header_length t) payload) rest))
    (header_cut written t previous unit_place (unit code (header_length t) payload ++ rest) (text ∷ units) small
    (picture_cut written code (header_length t) payload next rest units is short (header_short t) (more (after next (info_for code (header_length t) payload)))))
both_by written t code previous payload false unit_place rest units is short small more =
    picture_cut written code previous payload unit_place rest units is short small (more (after unit_place (info_for code previous payload)))

cut_from : IsReadAsWritten → (t : Settings) (ms : List Made) (previous : ℕ) (unit_place : UnitPlace) → previous < 2 ^ 32 → AllByRecursion IsUnit ms
    → IsCut unit_place (units_of t previous ms ++ end_unit (last_length previous ms)) (units_from t previous ms) None
unfolding units_of units_from picture_text
cut_from written t [] previous unit_place small all = end_cut written previous unit_place small
cut_from written t (m ∷ ms) previous unit_place small all =
    let first = header_before t m previous ++ picture_unit t m previous in
    let last = end_unit (last_length (picture_length m) ms) in
    subst (λ (l : List ℕ). IsCut unit_place l (units_from t previous (m ∷ ms)) None) (sym (append_assoc first (units_of t (picture_length m) ms) last))
    (both_by written t m.coded.code previous m.payload (is_intra m.coded.code) unit_place (units_of t (picture_length m) ms ++ last) (units_from t (picture_length m) ms) all.0.code all.0.short small
    (λ next. cut_from written t ms (picture_length m) next all.0.short all.1))

pub streams_cut : IsReadAsWritten → StreamsAreCut
unfolding header_text units_from units_of
streams_cut written t [] all =
    let info = info_for 0x00 0 (sequence_payload t) in
    header_cut written t 0 first_unit_place (end_unit (header_length t)) (end_text (header_length t) ∷ []) (omega arith) (end_cut written (header_length t) (after first_unit_place info) (header_short t))
streams_cut written t (m ∷ ms) all = cut_from written t (m ∷ ms) 0 first_unit_place (omega arith) all

-- ---- their content

front_same : (xs : List ℕ) → starts_with nat_eq xs xs ≡ true
front_same [] = refl
front_same (x ∷ xs) = rw (eq-eqb x x refl) (front_same xs)

pub same_header : (xs : List ℕ) → is_same xs xs ≡ true
same_header xs = and_from (length xs == length xs) (starts_with nat_eq xs xs) (eq-eqb (length xs) (length xs) refl) (front_same xs)

opened_by : Settings → Opened
opened_by t = record { header = sequence_payload t; sequence = sequence_of t }

-- the stream so far: its sequence is open, these pictures are listed, and these wait
record Going (t : Settings) (refs : List Picture) (waiting : List Waiting) (state : StreamState) : Type 0 where
  pub opened : state.opened ≡ Some (opened_by t)
  pub listed : state.list ≡ refs
  pub waits : state.waiting ≡ waiting

repeats : (t : Settings) (state : StreamState) → state.opened ≡ Some (opened_by t) → unit_step state 0x00 (sequence_payload t) ≡ Ok (staying state)
unfolding unit_step opened_by
repeats t state e =
    let answer : Bool → Result StreamStep Refusal = λ same. if same then Ok (staying state) else Err (record { at = 0; cause = SequenceChanged }) in
    ap (λ o. header_step state o (sequence_payload t)) e ∙ ap answer (same_header (sequence_payload t))

opens : (t : Settings) → sequence_read (sequence_payload t) ≡ Ok (sequence_of t) → unit_step stream_begun 0x00 (sequence_payload t) ≡ Ok (staying (record stream_begun { opened = Some (opened_by t); first = None }))
unfolding unit_step opened_by
opens t read = ap (opening stream_begun (sequence_payload t)) read

adds : (t : Settings) (code : ℕ) (payload : List ℕ) (coded : CodedPicture) (state : StreamState) → state.opened ≡ Some (opened_by t) → IsPictureCode code
    → picture_read code (sequence_of t) state.list payload ≡ Ok coded → unit_step state code payload ≡ Ok (shows state coded (rebuilt (sequence_of t) state.list coded))
unfolding unit_step opened_by
adds t code payload coded state e is read =
    ap (λ (b : Bool). if b then content state code payload else Ok (passed state code)) is.read
    ∙ ap (λ (b : Bool). if b then header_step state state.opened payload else picture_step state state.opened code payload) is.other
    ∙ ap (λ o. picture_step state o code payload) e ∙ ap (shown_or_refused state (opened_by t)) read

pub outcome_more : (state : StreamState) (unit_place : UnitPlace) (unit : UnitText) (units : List UnitText) (m : StreamStep) → unit_step state unit.info.code unit.payload ≡ Ok m
    → outcome state unit_place (unit ∷ units) None ≡ with_front m.gone (outcome m.state (after unit_place unit.info) units None)
unfolding outcome
outcome_more state unit_place unit units m e = ap (follows state unit_place (λ next. outcome next (after unit_place unit.info) units None)) e

-- the pictures that come out, and no fault
record Shows (o : Outcome) (pictures : List Picture) : Type 0 where
  pub shown : o.shown ≡ pictures
  pub none : o.end ≡ None

shows_end : (previous : ℕ) (waiting : List Waiting) (unit_place : UnitPlace) (state : StreamState) → state.waiting ≡ waiting → Shows (outcome state unit_place (end_text previous ∷ []) None) (flushed_behind waiting [])
unfolding outcome unit_step end_text
shows_end previous waiting unit_place state waits = record {
  shown = ap (λ ws. flushed ws ++ []) waits ∙ append-nil (flushed waiting);
  none = refl;
}

-- a sequence header that stands before an intra picture
shows_header : (t : Settings) (previous : ℕ) (b : Bool) (unit_place : UnitPlace) (state : StreamState) (units : List UnitText) (pictures : List Picture) → state.opened ≡ Some (opened_by t)
    → ((next : UnitPlace) → Shows (outcome state next units None) pictures) → Shows (outcome state unit_place ((if b then header_text t previous ∷ [] else []) ++ units) None) pictures
unfolding header_text
shows_header t previous true unit_place state units pictures opened more =
    let header = header_text t previous in
    let rest = more (after unit_place header.info) in
    let step = outcome_more state unit_place header units (staying state) (repeats t state opened) in
    record { shown = ap (λ (o : Outcome). o.shown) step ∙ rest.shown; none = ap (λ (o : Outcome). o.end) step ∙ rest.none }
shows_header t previous false unit_place state units pictures opened more = more unit_place

-- one picture more
shows_one : (t : Settings) (m : Made) (refs : List Picture) (waiting rest : List Waiting) (previous : ℕ) (unit_place : UnitPlace) (state : StreamState) (units : List UnitText)
    → Going t refs waiting state → first_or state.first m.shown.number ≡ 0 → IsMade t refs m
    → ((next : UnitPlace) (later : StreamState) → Going t (refs_after refs m) (delivered (waiting ++ waiting_of m ∷ [])).waiting later → later.first ≡ Some 0
    → Shows (outcome later next units None) (flushed_behind (delivered (waiting ++ waiting_of m ∷ [])).waiting rest))
    → Shows (outcome state unit_place (picture_text t m previous ∷ units) None) (flushed_behind waiting (waiting_of m ∷ rest))
unfolding picture_text
shows_one t m refs waiting rest previous unit_place state units g first is more =
    let text = picture_text t m previous in
    let mv = shows state m.coded m.shown in
    let now = delivered (waiting ++ waiting_of m ∷ []) in
    let read : picture_read m.coded.code (sequence_of t) state.list m.payload ≡ Ok m.coded = ap (λ l. picture_read m.coded.code (sequence_of t) l m.payload) g.listed ∙ is.read in
    let same : rebuilt (sequence_of t) state.list m.coded ≡ m.shown = ap (λ l. rebuilt (sequence_of t) l m.coded) g.listed ∙ sym is.shows in
    let moves : unit_step state m.coded.code m.payload ≡ Ok mv = adds t m.coded.code m.payload m.coded state g.opened is.fits.code read ∙ ap (λ p. Ok (shows state m.coded p)) same in
    let push : List Waiting → ℕ → List Waiting = λ ws k. ws ++ record { key = key_of k m.shown.number; picture = m.shown } ∷ [] in
    let all : push state.waiting (first_or state.first m.shown.number) ≡ waiting ++ waiting_of m ∷ [] = ap₂ push g.waits first in
    let going : Going t (refs_after refs m) now.waiting mv.state = record {
      opened = g.opened;
      listed = ap (λ l. committed l m.coded.header.retire (as_reference m.coded.code m.shown)) g.listed;
      waits = ap (λ ws. (delivered ws).waiting) all;
    } in
    let gone : mv.gone ≡ now.gone = ap (λ ws. (delivered ws).gone) all in
    let others = more (after unit_place text.info) mv.state going (ap Some first) in
    let step = outcome_more state unit_place text units mv moves in
    record {
      shown =
          ap (λ (o : Outcome). o.shown) step ∙ ap (λ l. mv.gone ++ l) others.shown ∙ ap (λ l. l ++ flushed_behind now.waiting rest) gone
          ∙ sym (append_assoc now.gone _ _);
      none = ap (λ (o : Outcome). o.end) step ∙ others.none;
    }

shows_from : (t : Settings) (ms : List Made) (refs : List Picture) (waiting : List Waiting) (previous : ℕ) (unit_place : UnitPlace) (state : StreamState) → Going t refs waiting state → state.first ≡ Some 0 → AreMade t refs ms
    → Shows (outcome state unit_place (units_from t previous ms) None) (flushed_behind waiting (keyed_reconstructions ms))
unfolding units_from
shows_from t [] refs waiting previous unit_place state g first all = shows_end previous waiting unit_place state g.waits
shows_from t (m ∷ ms) refs waiting previous unit_place state g first all =
    let units = units_from t (picture_length m) ms in
    let now = delivered (waiting ++ waiting_of m ∷ []) in
    shows_header t previous (is_intra m.coded.code) unit_place state (picture_text t m previous ∷ units) (flushed_behind waiting (keyed_reconstructions (m ∷ ms))) g.opened
    (λ next. shows_one t m refs waiting (keyed_reconstructions ms) previous next state units g (ap (λ o. first_or o m.shown.number) first) all.0
    (λ next' later g' first'. shows_from t ms (refs_after refs m) now.waiting (picture_length m) next' later g' first' all.1))

-- ---- the whole stream

first_course : Settings → StreamState
first_course t = record stream_begun { opened = Some (opened_by t); first = None }

first_going : (t : Settings) → Going t [] [] (first_course t)
unfolding first_course
first_going t = record { opened = refl; listed = refl; waits = refl }

pub each_unit : (t : Settings) (refs : List Picture) (ms : List Made) → AreMade t refs ms → AllByRecursion IsUnit ms
each_unit t refs [] all = tt
each_unit t refs (m ∷ ms) all = (all.0.fits, each_unit t (refs_after refs m) ms all.1)

-- behind the first sequence header
shows_all : (t : Settings) (ms : List Made) (units : List UnitText) → sequence_read (sequence_payload t) ≡ Ok (sequence_of t)
    → ((next : UnitPlace) → Shows (outcome (first_course t) next units None) (in_delivery_order (keyed_reconstructions ms))) → Shows (outcome stream_begun first_unit_place (header_text t 0 ∷ units) None) (in_delivery_order (keyed_reconstructions ms))
unfolding first_course header_text
shows_all t ms units read more =
    let rest = more (after first_unit_place (header_text t 0).info) in
    let step = outcome_more stream_begun first_unit_place (header_text t 0) units (staying (first_course t)) (opens t read) in
    record { shown = ap (λ (o : Outcome). o.shown) step ∙ rest.shown; none = ap (λ (o : Outcome). o.end) step ∙ rest.none }

shows_stream : (t : Settings) (ms : List Made) → IsAccepted t → AreMade t [] ms → Begins ms → Shows (outcome stream_begun first_unit_place (units_in t ms) None) (in_delivery_order (keyed_reconstructions ms))
unfolding units_from first_course
shows_stream t [] accepted all begins =
    shows_all t [] (end_text (header_length t) ∷ []) (header_read t accepted) (λ next. shows_end (header_length t) [] next (first_course t) refl)
shows_stream t (m ∷ ms) accepted all begins =
    let units = units_from t (picture_length m) ms in
    let now = delivered ([] ++ waiting_of m ∷ []) in
    let first : first_or None m.shown.number ≡ 0 = ap (λ (p : Picture). p.number) all.0.shows ∙ begins.1 in
    let told : Bool → List UnitText = λ b. (if b then header_text t 0 ∷ [] else []) ++ picture_text t m 0 ∷ units in
    subst (λ (us : List UnitText). Shows (outcome stream_begun first_unit_place us None) (in_delivery_order (keyed_reconstructions (m ∷ ms)))) (ap told (sym begins.0))
    (shows_all t (m ∷ ms) (picture_text t m 0 ∷ units) (header_read t accepted)
    (λ next. shows_one t m [] [] (keyed_reconstructions ms) 0 next (first_course t) units (first_going t) first all.0
    (λ next' later g' first'. shows_from t ms (refs_after [] m) now.waiting (picture_length m) next' later g' first' all.1)))

pub streams_shown : IsReadAsWritten → StreamsShowTheirPictures
streams_shown written t ms accepted all begins =
    let units = units_in t ms in
    let is = shows_stream t ms accepted all begins in
    (outcome stream_begun first_unit_place units None, record { units = units; end = None; cut = streams_cut written t ms (each_unit t [] ms all); same = refl }, is.shown, is.none)
