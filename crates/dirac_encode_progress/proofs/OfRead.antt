-- What was written is what the raw bytes read ask for, whatever follows them.
use Rattle.std.proofs.Common.{◌≡◌, ◌∙◌, ℕ, ◌+◌, ◌-◌, ◌*◌, ◌==◌, ◌<◌, ◌≤◌, Bool, List, [], ◌++◌, length, take, drop, Option, None, Some, refl, sym, ap, subst, arith, append_assoc, append-nil, true, false}
use Rattle.std.proofs.lemmas.List.{take_at}
use Rattle.std.specs.Prelude.{IfSome, ◌||◌}
use Rattle.std.specs.Io.KnownBytes.{Appends, Consumes}
use Rattle.std.proofs.KnownBytes.{Appends-nil}
use Rattle.dirac_io.specs.Writing.{AppendsFront}
use Rattle.dirac_types.specs.declared.settings.Settings.{Settings}
use Rattle.dirac_content.specs.Raw.{raws}
use Rattle.dirac_sources.specs.Sources.{picture_from, raw_length, sources}
use Rattle.dirac_plan.specs.Planning.{Planning, are_too_few, gives_none, waiting_places, with_picture}
use Rattle.dirac_encode_laws.specs.declared.answers.Encoded.{Encoded}
use Rattle.dirac_encode_laws.specs.declared.answers.Encoded.TheVariants as encoded
use Rattle.dirac_encode_laws.specs.Coding.{IndexRule, Made, coded_under}
use Rattle.dirac_encode_laws.specs.Encoding.{AnswersEncodedStream, Encoding, WritesAll, WritesFront, encoding_under}
use Rattle.dirac_encode_laws.specs.Steps.{Progress}
use Rattle.dirac_encode_laws.proofs.Recovered.{AreBytes}
use Rattle.dirac_encode_laws.specs.Standing.{coding_in, jobs_in, pushed_now}
use Rattle.dirac_encode_laws.specs.Stream.{units_of}
use Rattle.dirac_encode_progress.specs.Alone.{WritesDue, WritesFrontOfRead, none_can_be_coded}
use Rattle.dirac_encode_progress.specs.Going.{LeadsOn}
use Rattle.dirac_encode_progress.proofs.Reading.{Runs, closes_part, next_leads, so_far_first, waits_leads}

-- of these bytes some were read, and coding came so far by them, whatever follows
pub record Alone (f : IndexRule) (t : Settings) (bytes : List ℕ) (p : Planning) (c : Progress) (held out0 out side0 side : Option (List ℕ)) : Type 0 where
  pub read : List ℕ
  pub rest : List ℕ
  pub parts : bytes ≡ read ++ rest
  pub holds : held ≡ Some rest
  pub runs : (more : List ℕ) → Runs f t (read ++ more) p c (Some more) out0 out side0 side

pub alone_first : (f : IndexRule) (t : Settings) (first : Option (List ℕ)) (p : Planning) (c : Progress) (out side : Option (List ℕ)) → p.accepted ≡ 0 → p.waiting ≡ [] → p.given ≡ 0 → c.count ≡ 0 → c.previous ≡ 0 → c.refs ≡ [] → c.delivery ≡ []
    → IfSome first (λ bytes. Alone f t bytes p c first out out side side)
alone_first f t None p c out side accepted waiting given count previous refs delivery = tt
alone_first f t (Some bytes) p c out side accepted waiting given count previous refs delivery = record {
  read = [];
  rest = bytes;
  parts = refl;
  holds = refl;
  runs = λ more. so_far_first f t (Some more) p c out side accepted waiting given count previous refs delivery;
}

-- what a source gave of the bytes that it held
given_of : (held held' : Option (List ℕ)) (rest part : List ℕ) → held ≡ Some rest → Consumes held held' part → (left : List ℕ) × (held' ≡ Some left) × (rest ≡ part ++ left)
given_of held None rest part is got = absurd (subst (λ (h : Option (List ℕ)). Consumes h None part) is got)
given_of held (Some left) rest part is got = (left, refl, subst (λ (h : Option (List ℕ)). Consumes h (Some left) part) is got)

-- one raw picture more
pub alone_leads : (f : IndexRule) (t : Settings) (first : Option (List ℕ)) (p q p' : Planning) (c c' : Progress) (held held' out0 out out' side0 side side' : Option (List ℕ)) (chunk : List ℕ) → IfSome first (λ bytes. Alone f t bytes p c held out0 out side0 side) → Consumes held held' chunk → AreBytes chunk → length chunk ≡ raw_length t
    → 1 ≤ raw_length t → p.accepted < t.pictures → q ≡ with_picture p (picture_from t p.accepted chunk) → LeadsOn f t false q p' c c' out out' side side' → p'.accepted ≡ q.accepted → IfSome first (λ bytes. Alone f t bytes p' c' held' out0 out' side0 side')
alone_leads f t None p q p' c c' held held' out0 out out' side0 side side' chunk a got are_bytes whole some few is led same = tt
alone_leads f t (Some bytes) p q p' c c' held held' out0 out out' side0 side side' chunk a got are_bytes whole some few is led same =
    let left = given_of held held' a.rest chunk a.holds got in
    record {
      read = a.read ++ chunk;
      rest = left.0;
      parts = a.parts ∙ ap (λ (l : List ℕ). a.read ++ l) left.2 ∙ sym (append_assoc a.read chunk left.0);
      holds = left.1;
      runs = λ more.
          subst (λ (l : List ℕ). Runs f t l p' c' (Some more) out0 out' side0 side') (sym (append_assoc a.read chunk more))
          (next_leads f t (Some (a.read ++ (chunk ++ more))) p q p' c c' (Some (chunk ++ more)) (Some more) out0 out out' side0 side side' chunk (a.runs (chunk ++ more)) refl are_bytes whole some few is led same);
    }

-- what waits is coded, and nothing is read
pub alone_waits : (f : IndexRule) (t : Settings) (full : Bool) (first : Option (List ℕ)) (p p' : Planning) (c c' : Progress) (held out0 out out' side0 side side' : Option (List ℕ)) → (full ≡ true → p.accepted ≡ t.pictures) → IfSome first (λ bytes. Alone f t bytes p c held out0 out side0 side)
    → LeadsOn f t full p p' c c' out out' side side' → p'.accepted ≡ p.accepted → IfSome first (λ bytes. Alone f t bytes p' c' held out0 out' side0 side')
alone_waits f t full None p p' c c' held out0 out out' side0 side side' all a led same = tt
alone_waits f t full (Some bytes) p p' c c' held out0 out out' side0 side side' all a led same = record {
  read = a.read;
  rest = a.rest;
  parts = a.parts;
  holds = a.holds;
  runs = λ more. waits_leads f t full (Some (a.read ++ more)) p p' c c' (Some more) out0 out out' side0 side side' all (a.runs more) led same;
}

all_is_front : (out out' : Option (List ℕ)) (text : List ℕ) → Appends out out' text → AppendsFront out out' text
all_is_front out out' text all = (text, [], sym (append-nil text), all)

written_is_front : (e : Encoding) (out out' side side' : Option (List ℕ)) {P : Type 0} → P × WritesAll e out out' side side' → WritesFront e out out' side side'
written_is_front e out out' side side' is = (all_is_front out out' e.stream is.1.0, all_is_front side side' _ is.1.1)

answers_front : (answer : Encoded) (e : Encoding) (out out' side side' : Option (List ℕ)) → AnswersEncodedStream answer e out out' side side' → WritesFront e out out' side side'
answers_front encoded.ReadFault e out out' side side' is = is
answers_front encoded.WriteFault e out out' side side' is = is
answers_front encoded.SideFault e out out' side side' is = is
answers_front encoded.NoMemory e out out' side side' is = is
answers_front encoded.Done e out out' side side' is = written_is_front e out out' side side' is
answers_front (encoded.PartialPicture n) e out out' side side' is = written_is_front e out out' side side' is
answers_front (encoded.UnitTooLong n) e out out' side side' is = written_is_front e out out' side side' is
answers_front encoded.TooManyPictures e out out' side side' is = written_is_front e out out' side side' is

-- where coding ends behind so many bytes more, its answer is that of the encoding of those read
pub front_by : (f : IndexRule) (t : Settings) (first : Option (List ℕ)) (p : Planning) (c : Progress) (answer : Encoded) (held held' out0 out out' side0 side side' : Option (List ℕ)) (part : List ℕ) → IfSome first (λ bytes. Alone f t bytes p c held out0 out side0 side) → Consumes held held' part
    → ((bytes : List ℕ) → Runs f t bytes p c (Some part) out0 out side0 side → AnswersEncodedStream answer (encoding_under f t bytes) out0 out' side0 side') → IfSome first (λ bytes. WritesFrontOfRead f t bytes held' out0 out' side0 side')
front_by f t None p c answer held held' out0 out out' side0 side side' part a got answers = tt
front_by f t (Some bytes) p c answer held held' out0 out out' side0 side side' part a got answers =
    let left = given_of held held' a.rest part a.holds got in
    record {
      read = a.read ++ part;
      rest = left.0;
      parts = a.parts ∙ ap (λ (l : List ℕ). a.read ++ l) left.2 ∙ sym (append_assoc a.read part left.0);
      holds = left.1;
      written = answers_front answer (encoding_under f t (a.read ++ part)) out0 out' side0 side' (answers (a.read ++ part) (a.runs part));
    }

-- before anything was read
pub front_of_nothing : (f : IndexRule) (t : Settings) (first out side : Option (List ℕ)) → IfSome first (λ bytes. WritesFrontOfRead f t bytes first out out side side)
front_of_nothing f t None out side = tt
front_of_nothing f t (Some bytes) out side = record {
  read = [];
  rest = bytes;
  parts = refl;
  holds = refl;
  written = (([], (encoding_under f t []).stream, refl, Appends-nil out), ([], _, refl, Appends-nil side));
}

-- what was coded so far are the first pictures in coding order
first_coded : (f : IndexRule) (t : Settings) (bytes : List ℕ) (p : Planning) (c : Progress) (held out0 out side0 side : Option (List ℕ)) (r : Runs f t bytes p c held out0 out side0 side) → take c.count (coding_in f t bytes) ≡ r.goes.stands.done
first_coded f t bytes p c held out0 out side0 side r =
    ap (take c.count) r.goes.stands.all ∙ take_at r.goes.stands.done (coded_under f t c.refs (drop c.count (jobs_in t bytes))) c.count r.goes.stands.count

first_written : (f : IndexRule) (t : Settings) (bytes : List ℕ) (p : Planning) (c : Progress) (held out0 out side0 side : Option (List ℕ)) → Runs f t bytes p c held out0 out side0 side → Appends out0 out (units_of t 0 (take c.count (coding_in f t bytes)))
first_written f t bytes p c held out0 out side0 side r =
    subst (λ (ms : List Made). Appends out0 out (units_of t 0 ms)) (sym (first_coded f t bytes p c held out0 out side0 side r)) r.goes.stands.written

first_delivered : (f : IndexRule) (t : Settings) (bytes : List ℕ) (p : Planning) (c : Progress) (held out0 out side0 side : Option (List ℕ)) → Runs f t bytes p c held out0 out side0 side → Appends side0 side (raws (pushed_now (take c.count (coding_in f t bytes))).gone)
first_delivered f t bytes p c held out0 out side0 side r =
    subst (λ (ms : List Made). Appends side0 side (raws (pushed_now ms).gone)) (sym (first_coded f t bytes p c held out0 out side0 side r)) r.goes.stands.delivered

-- where a read failed
held_is : (part other : List ℕ) → Some part ≡ Some other → part ≡ other
held_is part other is = cc

-- none of those that wait can be coded, told by how many were read and are coded
none_more : (p : Planning) (t : Settings) (read coded : ℕ) → p.settings ≡ t → p.accepted ≡ read → p.given ≡ coded → length p.waiting ≡ read - coded → gives_none p (p.accepted == t.pictures) ≡ true → none_can_be_coded t read coded ≡ true
none_more p t read coded settings accepted given waiting none =
    subst (λ (w : ℕ). (w == 0 || are_too_few t read coded (read == t.pictures) w) ≡ true) waiting
    (subst (λ (k : ℕ). (length p.waiting == 0 || are_too_few t read k (read == t.pictures) (length p.waiting)) ≡ true) given
    (subst (λ (n : ℕ). (length p.waiting == 0 || are_too_few t n p.given (n == t.pictures) (length p.waiting)) ≡ true) accepted
    (subst (λ (s : Settings). (length p.waiting == 0 || are_too_few s p.accepted p.given (p.accepted == t.pictures) (length p.waiting)) ≡ true) settings none)))

pub due_by : (f : IndexRule) (t : Settings) (first : Option (List ℕ)) (p : Planning) (c : Progress) (held held' out0 out side0 side : Option (List ℕ)) (part : List ℕ) → IfSome first (λ bytes. Alone f t bytes p c held out0 out side0 side) → Consumes held held' part → length part < raw_length t → p.accepted ≤ t.pictures
    → p.accepted ≡ p.given + length p.waiting → length p.waiting ≤ waiting_places p.settings → p.settings ≡ t → gives_none p (p.accepted == t.pictures) ≡ true → IfSome first (λ bytes. WritesDue f t bytes held' out0 out side0 side)
due_by f t None p c held held' out0 out side0 side part a got short few counts fit same none = tt
due_by f t (Some bytes) p c held held' out0 out side0 side part a got short few counts fit same none =
    let left = given_of held held' a.rest part a.holds got in
    let read : List ℕ = a.read ++ part in
    let r : Runs f t read p c (Some part) out0 out side0 side = a.runs part in
    let rest : drop (p.accepted * raw_length t) read ≡ part ++ [] = sym (held_is part (drop (p.accepted * raw_length t) read) r.is_held) ∙ sym (append-nil part) in
    let closes = closes_part t read p.accepted (length part) part [] rest refl refl short r.fits few in
    let all_runs : (more : List ℕ) → Runs f t (read ++ more) p c (Some (part ++ more)) out0 out side0 side =
    λ more. subst (λ (l : List ℕ). Runs f t l p c (Some (part ++ more)) out0 out side0 side) (sym (append_assoc a.read part more)) (a.runs (part ++ more)) in
    record {
      read = read;
      rest = left.0;
      parts = a.parts ∙ ap (λ (l : List ℕ). a.read ++ l) left.2 ∙ sym (append_assoc a.read part left.0);
      holds = left.1;
      count = c.count;
      few_wait = omega (arith, closes.all, counts, fit, ap waiting_places same, r.goes.given);
      none_due = none_more p t (length (sources t read)) c.count same closes.all r.goes.given (omega (arith, closes.all, counts, r.goes.given)) none;
      written = λ more. first_written f t (read ++ more) p c (Some (part ++ more)) out0 out side0 side (all_runs more);
      delivered = λ more. first_delivered f t (read ++ more) p c (Some (part ++ more)) out0 out side0 side (all_runs more);
    }
