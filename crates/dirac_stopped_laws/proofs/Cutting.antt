-- Streams that stop before a picture are cut into the units before it.
use Rattle.std.proofs.Common.{◌≡◌, ℕ, ◌+◌, ◌<◌, ◌^◌, ◌==◌, if◌then◌else◌, Bool, true, false, List, [], ◌∷◌, ◌++◌, length, refl, sym, ap, ◌∙◌, subst, arith, append_assoc, append-nil, length-append, Some}
use Rattle.std.specs.List.{AllByRecursion}
use Rattle.std.proofs.lemmas.Bool.{le-leb}
use Rattle.dirac_common.specs.declared.codes.TheConstants.{END_OF_SEQUENCE}
use Rattle.dirac_common.specs.declared.faults.Cause.TheVariants.{MissingEnd}
use Rattle.dirac_common.specs.declared.faults.Fault.{Fault}
use Rattle.dirac_types.specs.declared.settings.Settings.{Settings}
use Rattle.dirac_units.specs.declared.unit_place.UnitPlace.{UnitPlace}
use Rattle.dirac_units.specs.Cut.{UnitText, IsCut, after, first_unit_place}
use Rattle.dirac_units.specs.Info.{IsLawful, span_of}
use Rattle.dirac_units.specs.Writing.{IsReadAsWritten, info_bytes, info_for, unit}
use Rattle.dirac_sequence.specs.Written.{sequence_payload}
use Rattle.dirac_picture.specs.Grammar.{is_intra}
use Rattle.dirac_plan_laws.specs.Headers.{IsPictureCode}
use Rattle.dirac_encode_laws.specs.Coding.{Made}
use Rattle.dirac_encode_laws.specs.Encoding.{stream_before}
use Rattle.dirac_encode_laws.specs.Stream.{IsUnit, header_before, header_length, header_text, header_texts, header_unit, last_length, picture_length, picture_text, picture_unit, units_of}
use Rattle.dirac_encode_laws.proofs.Cutting.{one_cut, unit_front_is}
use Rattle.dirac_encode_laws.proofs.Headers.{header_short}
use Rattle.dirac_encode_laws.proofs.Showing.{header_lawful}
use Rattle.dirac_stopped_laws.specs.Stopped.{StoppedStreamsAreCut, texts_before, texts_of}

-- behind these units of these bytes, from a place on, the end unit is missing
abbrev pub missing : UnitPlace → List ℕ → List UnitText → Fault
missing place bytes texts = record { unit = place.index + length texts; at = place.at + length bytes; cause = MissingEnd }

fault_same : (u u' a a' : ℕ) → u ≡ u' → a ≡ a'
    → let f : Fault = record { unit = u; at = a; cause = MissingEnd } in let g : Fault = record { unit = u'; at = a'; cause = MissingEnd } in f ≡ g
fault_same u u' a a' e f = rw (e, f) refl

-- nothing is left, and the sequence is open
ends_open : (place : UnitPlace) → place.closed ≡ false → IsCut place [] [] (Some (missing place [] []))
ends_open place unclosed =
    let no_units : place.index + 0 ≡ place.index = omega arith in
    rw (unclosed, no_units) refl

-- a unit before others
unit_cut : IsReadAsWritten → (code previous : ℕ) (payload : List ℕ) (place : UnitPlace) (rest : List ℕ) (texts : List UnitText) → IsLawful (info_for code previous payload) → 13 + length payload < 2 ^ 32 → previous < 2 ^ 32
    → IsCut (after place (info_for code previous payload)) rest texts (Some (missing (after place (info_for code previous payload)) rest texts))
    → let text : UnitText = record { info = info_for code previous payload; payload = payload } in
    IsCut place (unit code previous payload ++ rest) (text ∷ texts) (Some (missing place (unit code previous payload ++ rest) (text ∷ texts)))
unit_cut written code previous payload place rest texts lawful short small more =
    let info = info_for code previous payload in
    let text : UnitText = record { info = info; payload = payload } in
    let next = after place info in
    let span : span_of info ≡ 13 + length payload = omega arith in
    let long : length (unit code previous payload ++ rest) ≡ 13 + length payload + length rest = length-append (unit code previous payload) rest ∙ ap (λ n. n + length rest) (length-append (info_bytes info) payload) in
    let same : missing next rest texts ≡ missing place (unit code previous payload ++ rest) (text ∷ texts) = fault_same _ _ _ _ (omega arith) (omega (arith, span, long)) in
    subst (λ (f : Fault). IsCut place (unit code previous payload ++ rest) (text ∷ texts) (Some f)) same
    (one_cut place info payload rest texts (Some (missing next rest texts)) (unit_front_is written place info payload rest span short small lawful) more)

picture_lawful : (code previous : ℕ) (payload : List ℕ) → IsPictureCode code → IsLawful (info_for code previous payload)
picture_lawful code previous payload is = rw (is.kind, le-leb 13 (13 + length payload) (omega arith)) refl

-- a picture doesn't close its sequence
not_end : (code : ℕ) → IsPictureCode code → (code == END_OF_SEQUENCE) ≡ false
not_end code is = by (code == END_OF_SEQUENCE) refl where
  by : (b : Bool) → (code == END_OF_SEQUENCE) ≡ b → b ≡ false
  by true e = let bad = rw (is.other, e) at is.kind in absurd cc
  by false e = refl

-- the sequence header before an intra picture, with nothing behind it
header_cut : IsReadAsWritten → (t : Settings) (previous : ℕ) (b : Bool) (place : UnitPlace) → place.closed ≡ false → previous < 2 ^ 32
    → let bytes : List ℕ = if b then header_unit t previous else [] in let texts : List UnitText = if b then header_text t previous ∷ [] else [] in
    IsCut place bytes texts (Some (missing place bytes texts))
unfolding header_text
header_cut written t previous true place unclosed small =
    let more = unit_cut written 0x00 previous (sequence_payload t) place [] [] (header_lawful previous (sequence_payload t)) (header_short t) small (ends_open (after place (info_for 0x00 previous (sequence_payload t))) refl) in
    subst (λ (l : List ℕ). IsCut place l (header_text t previous ∷ []) (Some (missing place l (header_text t previous ∷ [])))) (append-nil (header_unit t previous)) more
header_cut written t previous false place unclosed small = ends_open place unclosed

-- a picture with the header that stands before an intra picture
both_cut : IsReadAsWritten → (t : Settings) (code previous : ℕ) (payload : List ℕ) (b : Bool) (place : UnitPlace) (rest : List ℕ) (texts : List UnitText) → IsPictureCode code → 13 + length payload < 2 ^ 32 → previous < 2 ^ 32
    → ((next : UnitPlace) → next.closed ≡ false → IsCut next rest texts (Some (missing next rest texts)))
    → let bytes : List ℕ = ((if b then header_unit t previous else []) ++ unit code (if b then header_length t else previous) payload) ++ rest in
    let all : List UnitText = (if b then header_text t previous ∷ [] else []) ++ record { info = info_for code (if b then header_length t else previous) payload; payload = payload } ∷ texts in
    IsCut place bytes all (Some (missing place bytes all))
unfolding header_text
both_cut written t code previous payload true place rest texts is short small more =
    let next = after place (info_for 0x00 previous (sequence_payload t)) in
    let text : UnitText = record { info = info_for code (header_length t) payload; payload = payload } in
    subst (λ (l : List ℕ). IsCut place l (header_text t previous ∷ text ∷ texts) (Some (missing place l (header_text t previous ∷ text ∷ texts)))) (sym (append_assoc (header_unit t previous) (unit code (header_length t) payload) rest))
    (unit_cut written 0x00 previous (sequence_payload t) place (unit code (header_length t) payload ++ rest) (text ∷ texts) (header_lawful previous (sequence_payload t)) (header_short t) small
    (unit_cut written code (header_length t) payload next rest texts (picture_lawful code (header_length t) payload is) short (header_short t) (more (after next (info_for code (header_length t) payload)) (not_end code is))))
both_cut written t code previous payload false place rest texts is short small more =
    unit_cut written code previous payload place rest texts (picture_lawful code previous payload is) short small (more (after place (info_for code previous payload)) (not_end code is))

cut_from : IsReadAsWritten → (t : Settings) (ms : List Made) (m : Made) (previous : ℕ) (place : UnitPlace) → place.closed ≡ false → previous < 2 ^ 32 → AllByRecursion IsUnit ms
    → let bytes = units_of t previous ms ++ header_before t m (last_length previous ms) in let texts = texts_of t previous ms ++ header_texts t m (last_length previous ms) in
    IsCut place bytes texts (Some (missing place bytes texts))
unfolding units_of picture_text
cut_from written t [] m previous place unclosed small all = header_cut written t previous (is_intra m.coded.code) place unclosed small
cut_from written t (n ∷ ms) m previous place unclosed small all =
    let first = header_before t n previous ++ picture_unit t n previous in
    let header = header_before t m (last_length (picture_length n) ms) in
    let headers = header_texts t m (last_length (picture_length n) ms) in
    let whole : List UnitText → List ℕ → Type 0 = λ us l. IsCut place l us (Some (missing place l us)) in
    subst (λ (us : List UnitText). whole us ((first ++ units_of t (picture_length n) ms) ++ header)) (sym (append_assoc (header_texts t n previous) (picture_text t n previous ∷ texts_of t (picture_length n) ms) headers))
    (subst (whole (header_texts t n previous ++ picture_text t n previous ∷ (texts_of t (picture_length n) ms ++ headers))) (sym (append_assoc first (units_of t (picture_length n) ms) header))
    (both_cut written t n.coded.code previous n.payload (is_intra n.coded.code) place (units_of t (picture_length n) ms ++ header) (texts_of t (picture_length n) ms ++ headers) all.0.code all.0.short small
    (λ next closed. cut_from written t ms m (picture_length n) next closed all.0.short all.1)))

-- from the start
from_start : (bytes : List ℕ) (texts : List UnitText) → let f : Fault = record { unit = length texts; at = length bytes; cause = MissingEnd } in missing first_unit_place bytes texts ≡ f
from_start bytes texts = fault_same (0 + length texts) (length texts) (0 + length bytes) (length bytes) (omega arith) (omega arith)

pub stopped_cut : IsReadAsWritten → StoppedStreamsAreCut
stopped_cut written t ms m all =
    subst (λ (f : Fault). IsCut first_unit_place (stream_before t ms m) (texts_before t ms m) (Some f)) (from_start (stream_before t ms m) (texts_before t ms m))
    (cut_from written t ms m 0 first_unit_place refl (omega arith) all)
