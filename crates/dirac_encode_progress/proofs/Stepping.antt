-- One picture: written and delivered, or not.
use Rattle.std.proofs.Common.{◌≡◌, ℕ, ◌+◌, ◌<◌, ◌≤◌, ◌^◌, if◌then◌else◌, List, length, refl, ap, ◌∙◌, subst, arith, Option, None, Some, inr, Result, Ok, Err}
use Rattle.std.specs.Prelude.{IfErr, IfSome, OnOk}
use Rattle.std.specs.Io.KnownBytes.{Appends}
use Rattle.std.proofs.KnownBytes.{Appends-trans, Keeps-refl}
use Rattle.std.proofs.lemmas.Bool.{le-leb, lt-leb}
use Rattle.dirac_common.specs.declared.picture.Picture.{Picture}
use Rattle.dirac_types.specs.declared.settings.Settings.{Settings}
use Rattle.dirac_io.specs.Writing.{AppendsFront}
use Rattle.dirac_sequence.specs.Written.{sequence_payload}
use Rattle.dirac_picture.specs.Grammar.{is_intra}
use Rattle.dirac_refs.specs.Delivery.{delivered}
use Rattle.dirac_refs.specs.References.{committed}
use Rattle.dirac_units.proofs.Appended.{behind_front}
use Rattle.dirac_content.specs.StreamState.{as_reference}
use Rattle.dirac_content.specs.Raw.{raws}
use Rattle.dirac_encode_laws.specs.declared.answers.Encoded.{Encoded}
use Rattle.dirac_encode_laws.specs.declared.answers.Encoded.TheVariants as encoded
use Rattle.dirac_encode_laws.specs.Coding.{IndexRule, Job, made_under}
use Rattle.dirac_encode_laws.specs.Steps.{PictureBreaksOff, IsCoded, IsFault, IsTooLong, Progress, StopsPicture}
use Rattle.dirac_encode_laws.specs.Stream.{header_before, length_before, picture_length, picture_unit, unit}
use Rattle.dirac_encode_laws.proofs.Headers.{header_few}
use Rattle.dirac_encode_progress.specs.Going.{waiting_joined}

pub header_fits : (t : Settings) (header : List ℕ) → header ≡ sequence_payload t → 13 + length header < 2 ^ 32
header_fits t header is = omega (arith, ap length is, header_few t)

-- what came of the coding of a picture
pub record Parts (f : IndexRule) (t : Settings) (refs : List Picture) (j : Job) (payload : List ℕ) (shown : Picture) : Type 0 where
  pub payload_is : payload ≡ (made_under f t refs j).payload
  pub shown_is : shown ≡ (made_under f t refs j).shown

-- the length of the unit before a picture
pub previous_is : (f : IndexRule) (t : Settings) (refs : List Picture) (j : Job) (header : List ℕ) (old k : ℕ) → header ≡ sequence_payload t → k ≡ (if is_intra j.planned.code then 13 + length header else old) → k ≡ length_before t (made_under f t refs j) old
previous_is f t refs j header old k is e = e ∙ ap (λ (l : List ℕ). if is_intra j.planned.code then 13 + length l else old) is

same_unit : (f : IndexRule) (t : Settings) (refs : List Picture) (j : Job) (payload : List ℕ) (shown : Picture) (old k : ℕ) → Parts f t refs j payload shown → k ≡ length_before t (made_under f t refs j) old → unit j.planned.code k payload ≡ picture_unit t (made_under f t refs j) old
same_unit f t refs j payload shown old k is e = ap (λ n. unit j.planned.code n payload) e ∙ ap (unit j.planned.code (length_before t (made_under f t refs j) old)) is.payload_is

pub step_coded : (f : IndexRule) (t : Settings) (j : Job) (old new : Progress) (k : ℕ) (payload : List ℕ) (shown : Picture) (out mid out' side side' : Option (List ℕ)) → Parts f t old.refs j payload shown → k ≡ length_before t (made_under f t old.refs j) old.previous
    → 13 + length payload ≤ t.unit_bytes → new.count ≡ old.count + 1 → new.previous ≡ 13 + length payload → new.refs ≡ committed old.refs j.planned.retire (as_reference j.planned.code shown) → new.delivery ≡ (delivered (waiting_joined old.delivery j.planned.number shown)).waiting
    → Appends out mid (header_before t (made_under f t old.refs j) old.previous) → Appends mid out' (unit j.planned.code k payload) → Appends side side' (raws (delivered (waiting_joined old.delivery j.planned.number shown)).gone)
    → IsCoded t (made_under f t old.refs j) old new out out' side side'
step_coded f t j old new k payload shown out mid out' side side' is e short count previous refs waiting first second third =
    let m = made_under f t old.refs j in
    let len : length payload ≡ length m.payload = ap length is.payload_is in
    record {
      short = le-leb (picture_length m) t.unit_bytes (omega (arith, len, short));
      count = count;
      previous = omega (arith, previous, len);
      refs = refs ∙ ap (λ (q : Picture). committed old.refs j.planned.retire (as_reference j.planned.code q)) is.shown_is;
      waiting = waiting ∙ ap (λ (q : Picture). (delivered (waiting_joined old.delivery j.planned.number q)).waiting) is.shown_is;
      written =
          Appends-trans out mid out' (header_before t m old.previous) (picture_unit t m old.previous) first
          (subst (λ (l : List ℕ). Appends mid out' l) (same_unit f t old.refs j payload shown old.previous k is e) second);
      delivered = subst (λ (q : Picture). Appends side side' (raws (delivered (waiting_joined old.delivery j.planned.number q)).gone)) is.shown_is third;
    }

fault_stops : (f : IndexRule) (t : Settings) (refs : List Picture) (j : Job) (old : Progress) (answer : Encoded) (out out' side side' : Option (List ℕ)) → IsFault answer → PictureBreaksOff t (made_under f t refs j) old out out' side side' → StopsPicture t (made_under f t refs j) old answer out out' side side'
fault_stops f t refs j old encoded.WriteFault out out' side side' is breaks = breaks
fault_stops f t refs j old encoded.SideFault out out' side side' is breaks = breaks
fault_stops f t refs j old encoded.NoMemory out out' side side' is breaks = breaks
fault_stops f t refs j old encoded.Done out out' side side' is breaks = absurd is
fault_stops f t refs j old (encoded.PartialPicture n) out out' side side' is breaks = absurd is
fault_stops f t refs j old (encoded.UnitTooLong n) out out' side side' is breaks = absurd is
fault_stops f t refs j old encoded.TooManyPictures out out' side side' is breaks = absurd is
fault_stops f t refs j old encoded.ReadFault out out' side side' is breaks = absurd is

pub step_stopped : (f : IndexRule) (t : Settings) (j : Job) (old : Progress) (answer : Encoded) (k : ℕ) (payload : List ℕ) (shown : Picture) (out mid out' side side' : Option (List ℕ)) → Parts f t old.refs j payload shown → k ≡ length_before t (made_under f t old.refs j) old.previous
    → 13 + length payload ≤ t.unit_bytes → IsFault answer
    → Appends out mid (header_before t (made_under f t old.refs j) old.previous) → AppendsFront mid out' (unit j.planned.code k payload) → AppendsFront side side' (raws (delivered (waiting_joined old.delivery j.planned.number shown)).gone)
    → StopsPicture t (made_under f t old.refs j) old answer out out' side side'
step_stopped f t j old answer k payload shown out mid out' side side' is e short fault first second third =
    let m = made_under f t old.refs j in
    fault_stops f t old.refs j old answer out out' side side' fault (inr (
      le-leb (picture_length m) t.unit_bytes (omega (arith, ap length is.payload_is, short)),
      behind_front out mid out' (header_before t m old.previous) (picture_unit t m old.previous) first
          (subst (λ (l : List ℕ). AppendsFront mid out' l) (same_unit f t old.refs j payload shown old.previous k is e) second),
      subst (λ (q : Picture). AppendsFront side side' (raws (delivered (waiting_joined old.delivery j.planned.number q)).gone)) is.shown_is third,
    ))

pub step_long : (f : IndexRule) (t : Settings) (j : Job) (old : Progress) (payload : List ℕ) (shown : Picture) (out mid side : Option (List ℕ)) → Parts f t old.refs j payload shown → t.unit_bytes < 13 + length payload
    → Appends out mid (header_before t (made_under f t old.refs j) old.previous) → IsTooLong t (made_under f t old.refs j) j.planned.number old out mid side side
step_long f t j old payload shown out mid side is long first = record {
  same = refl;
  long = lt-leb (picture_length (made_under f t old.refs j)) t.unit_bytes (omega (arith, ap length is.payload_is, long));
  written = first;
  kept = Keeps-refl side;
}

-- six facts where a call succeeded
pub on_ok_six : {T E P Q R S U V W : Type 0} (r : Result T E) → (P → Q → R → S → U → V → W) → OnOk r P → OnOk r Q → OnOk r R → OnOk r S → OnOk r U → OnOk r V → OnOk r W
on_ok_six (Ok x) f p q u s v w = f p q u s v w
on_ok_six (Err e) f p q u s v w = tt

pub if_err : {T E : Type 0} {P Q : E → Type 0} (r : Result T E) → ((e : E) → P e → Q e) → IfErr r P → IfErr r Q
if_err (Ok x) f p = tt
if_err (Err e) f p = f e p

-- a fact where something is known, behind a premise
pub if_some_after : {T : Type 0} (o : Option T) (P : T → Type 0) (Q : Type 0) → IfSome o P → IfSome o (λ x. Q → P x)
if_some_after None P Q is = tt
if_some_after (Some x) P Q is = λ q. is
