-- What is written of a stream while its pictures come, are planned and coded, and what is answered.
use Rattle.std.proofs.Common.{◌≡◌, ℕ, zero, suc, ◌+◌, ◌-◌, ◌*◌, ◌/◌, ◌<◌, ◌≤◌, true, List, [], ◌∷◌, ◌++◌, length, map, drop, refl, sym, ap, ap₂, ◌∙◌, subst, arith, append_assoc, append-nil, length-append, length-drop, Option, Some, inl, inr}
use Rattle.std.specs.Prelude.{min, slice_get, slice_index_or}
use Rattle.std.specs.Io.KnownBytes.{Appends, Keeps}
use Rattle.std.proofs.lemmas.Option.{get_or_from_slice_get}
use Rattle.std.proofs.KnownBytes.{Appends-kept, Appends-nil, Appends-trans}
use Rattle.std.proofs.lemmas.Grind.{flat_map-append}
use Rattle.dirac_common.specs.declared.picture.Picture.{Picture}
use Rattle.dirac_types.specs.declared.settings.Settings.{Settings}
use Rattle.dirac_io.specs.Writing.{AppendsFront}
use Rattle.dirac_refs.specs.declared.waiting.Waiting.{Waiting}
use Rattle.dirac_refs.specs.Delivery.{flushed}
use Rattle.dirac_content.specs.Raw.{raw, raws}
use Rattle.dirac_sources.specs.Sources.{picture_from, pictures_in, raw_length, sources, whole_pictures}
use Rattle.dirac_plan.specs.declared.planned.Planned.{Planned}
use Rattle.dirac_encode_laws.specs.declared.answers.Encoded.{Encoded}
use Rattle.dirac_encode_laws.specs.declared.answers.Encoded.TheVariants as encoded
use Rattle.dirac_encode_laws.specs.Coding.{IndexRule, Job, Made, blank, coded_under, job_of, made_under, refs_after}
use Rattle.dirac_encode_laws.specs.Encoding.{AnswersEncodedStream, Encoding, WritesAll, WritesFront, encoding_by, encoding_under, ending, first_long, is_short}
use Rattle.dirac_encode_laws.specs.Standing.{Leave, CodingStands, coding_in, jobs_in, pushed_now}
use Rattle.dirac_encode_laws.specs.Steps.{PictureBreaksOff, EndsEarly, IsCoded, IsEnded, IsTooLong, Progress, last_units, leaving_with, picture_units}
use Rattle.dirac_encode_laws.specs.Stream.{header_before, last_length, units_of}
use Rattle.dirac_encode_laws.proofs.Encodings.{ahead, ahead_next, all_more, closing_is, coded_all, coded_more, ends_long, ends_whole, gone_more, last_parts, units_more, waiting_more}
use Rattle.dirac_encode_laws.proofs.Sources.{length-pictures_in, picture_more, pictures_parts, whole_more}
use Rattle.dirac_plan.specs.Plan.{plan}

-- ---- fronts of what two sinks took

front_behind : (out0 out out' : Option (List ℕ)) (a b rest all : List ℕ) → all ≡ (a ++ b) ++ rest → Appends out0 out a → AppendsFront out out' b → AppendsFront out0 out' all
front_behind out0 out out' a b rest all is first front =
    let text : all ≡ (a ++ front.0) ++ (front.1 ++ rest) =
    is ∙ ap (λ l. (a ++ l) ++ rest) front.2 ∙ ap (λ l. l ++ rest) (sym (append_assoc a front.0 front.1)) ∙ append_assoc (a ++ front.0) front.1 rest in
    (a ++ front.0, front.1 ++ rest, text, Appends-trans out0 out out' a front.0 first front.3)

front_kept : (out0 out out' : Option (List ℕ)) (a rest all : List ℕ) → all ≡ a ++ rest → Appends out0 out a → Keeps out out' → AppendsFront out0 out' all
front_kept out0 out out' a rest all is first kept = (a, rest, is, Appends-kept out0 out out' a first kept)

raws_parts : (a b c : List Picture) → raws ((a ++ b) ++ c) ≡ (raws a ++ raws b) ++ raws c
raws_parts a b c = flat_map-append raw (a ++ b) c ∙ ap (λ l. l ++ raws c) (flat_map-append raw a b)

-- ---- the pictures so far

-- so many pictures of these bytes are read, and the bytes behind them are held
pub record Reads (t : Settings) (bytes : List ℕ) (accepted : ℕ) (held : Option (List ℕ)) : Type 0 where
  pub is_held : held ≡ Some (drop (accepted * raw_length t) bytes)
  pub some : accepted * raw_length t ≤ length bytes

-- nothing is coded yet
pub stands_first : (f : IndexRule) (t : Settings) (bytes : List ℕ) (p : Progress) (out side : Option (List ℕ)) → p.count ≡ 0 → p.previous ≡ 0 → p.refs ≡ [] → p.delivery ≡ [] → CodingStands f t bytes p out out side side
unfolding units_of
stands_first f t bytes p out side count previous refs delivery = record {
  done = [];
  all = ap₂ (λ (r : List Picture) (n : ℕ). coded_under f t r (drop n (jobs_in t bytes))) (sym refs) (sym count);
  count = sym count;
  previous = previous;
  waiting = delivery;
  written = Appends-nil out;
  delivered = Appends-nil side;
  short = tt;
}

-- the planner gave the next job
pub job_is : (t : Settings) (bytes : List ℕ) (n : ℕ) (q : Planned) (source : Picture) (waiting : List Picture) → slice_get (plan (length (sources t bytes)) t) n ≡ Some q → source.number ≡ q.number
    → slice_get (sources t bytes) source.number ≡ Some source → slice_get (jobs_in t bytes) n ≡ Some (record { planned = q; source = source })
job_is t bytes n q source waiting next same among =
    let all = sources t bytes in
    let found : slice_index_or all q.number blank ≡ source = ap (λ k. slice_index_or all k blank) (sym same) ∙ get_or_from_slice_get all source.number source blank among in
    get_map (plan (length all) t) n q next ∙ ap (λ p. Some (record { planned = q; source = p })) found
  where
    get_map : (qs : List Planned) (n : ℕ) (q : Planned) → slice_get qs n ≡ Some q → slice_get (map (job_of (sources t bytes)) qs) n ≡ Some (job_of (sources t bytes) q)
    get_map [] zero q e = absurd cc
    get_map [] (suc n) q e = absurd cc
    get_map (r ∷ qs) zero q e = let is : r ≡ q = cc in ap (λ x. Some (job_of (sources t bytes) x)) is
    get_map (r ∷ qs) (suc n) q e = get_map qs n q e

-- one picture more is coded
pub stands_more : (f : IndexRule) (t : Settings) (bytes : List ℕ) (old new : Progress) (j : Job) (out0 out out' side0 side side' : Option (List ℕ)) → CodingStands f t bytes old out0 out side0 side → slice_get (jobs_in t bytes) old.count ≡ Some j
    → IsCoded t (made_under f t old.refs j) old new out out' side side' → CodingStands f t bytes new out0 out' side0 side'
stands_more f t bytes old new j out0 out out' side0 side side' so there coded =
    let m = made_under f t old.refs j in
    let ms = so.done in
    let more : coding_in f t bytes ≡ (ms ++ m ∷ []) ++ coded_under f t (refs_after old.refs m) (drop (old.count + 1) (jobs_in t bytes)) = coded_more f t (coding_in f t bytes) ms old.refs (jobs_in t bytes) old.count j so.all there in
    record {
      done = ms ++ m ∷ [];
      all = more ∙ ap₂ (λ (r : List Picture) (n : ℕ). (ms ++ m ∷ []) ++ coded_under f t r (drop n (jobs_in t bytes))) (sym coded.refs) (sym coded.count);
      count = omega (arith, length-append ms (m ∷ []), so.count, coded.count);
      previous = coded.previous ∙ sym (last_parts 0 ms (m ∷ []));
      waiting = coded.waiting ∙ ap (λ ws. (leaving_with m ws).waiting) so.waiting ∙ sym (waiting_more ms m);
      written =
          subst (λ (l : List ℕ). Appends out0 out' l) (sym (units_more t 0 ms m ∙ ap (λ k. units_of t 0 ms ++ picture_units t k m) (sym so.previous)))
          (Appends-trans out0 out out' (units_of t 0 ms) (picture_units t old.previous m) so.written coded.written);
      delivered =
          subst (λ (l : List ℕ). Appends side0 side' l)
          (sym (ap raws (gone_more ms m) ∙ flat_map-append raw (pushed_now ms).gone (leaving_with m (pushed_now ms).waiting).gone ∙ ap (λ ws. raws (pushed_now ms).gone ++ raws (leaving_with m ws).gone) (sym so.waiting)))
          (Appends-trans side0 side side' (raws (pushed_now ms).gone) (raws (leaving_with m old.delivery).gone) so.delivered coded.delivered);
      short = all_more (λ x. is_short t x ≡ true) ms m so.short coded.short;
    }

-- ---- the encoding, of which so much is written

encoding_parts : (f : IndexRule) (t : Settings) (bytes : List ℕ) (all : List Made) → coding_in f t bytes ≡ all → encoding_under f t bytes ≡ encoding_by t (ending t bytes) all (first_long t all)
unfolding encoding_under
encoding_parts f t bytes all is = ap (λ l. encoding_by t (ending t bytes) l (first_long t l)) is

-- at a fault between pictures
pub stops_between : (f : IndexRule) (t : Settings) (bytes : List ℕ) (p : Progress) (out0 out side0 side : Option (List ℕ)) → Leave (coding_in f t bytes) → CodingStands f t bytes p out0 out side0 side → WritesFront (encoding_under f t bytes) out0 out side0 side
stops_between f t bytes p out0 out side0 side leave so =
    let ms = so.done in
    let rest = coded_under f t p.refs (drop p.count (jobs_in t bytes)) in
    let a = ahead t (ending t bytes) ms rest so.short (subst Leave so.all leave) in
    subst (λ (e : Encoding). WritesFront e out0 out side0 side) (sym (encoding_parts f t bytes (ms ++ rest) so.all))
    ((units_of t 0 ms, a.rest, a.stream_is, so.written), (raws (pushed_now ms).gone, raws a.later, ap raws a.shown_is ∙ flat_map-append raw (pushed_now ms).gone a.later, so.delivered))

-- the next job is known
record Follows (f : IndexRule) (t : Settings) (bytes : List ℕ) (p : Progress) (ms : List Made) (m : Made) : Type 0 where
  pub rest : List Made
  pub all : coding_in f t bytes ≡ ms ++ m ∷ rest
  pub behind : coding_in f t bytes ≡ (ms ++ m ∷ []) ++ rest

follows : (f : IndexRule) (t : Settings) (bytes : List ℕ) (p : Progress) (j : Job) (ms : List Made) → coding_in f t bytes ≡ ms ++ coded_under f t p.refs (drop p.count (jobs_in t bytes)) → slice_get (jobs_in t bytes) p.count ≡ Some j → Follows f t bytes p ms (made_under f t p.refs j)
follows f t bytes p j ms all there =
    let m = made_under f t p.refs j in
    let rest = coded_under f t (refs_after p.refs m) (drop (p.count + 1) (jobs_in t bytes)) in
    let more = coded_more f t (coding_in f t bytes) ms p.refs (jobs_in t bytes) p.count j all there in
    record { rest = rest; all = more ∙ append_assoc ms (m ∷ []) rest; behind = more }

-- a fault in a picture
pub breaks_off : (f : IndexRule) (t : Settings) (bytes : List ℕ) (p : Progress) (j : Job) (out0 out out' side0 side side' : Option (List ℕ)) → Leave (coding_in f t bytes) → CodingStands f t bytes p out0 out side0 side → slice_get (jobs_in t bytes) p.count ≡ Some j
    → PictureBreaksOff t (made_under f t p.refs j) p out out' side side' → WritesFront (encoding_under f t bytes) out0 out' side0 side'
breaks_off f t bytes p j out0 out out' side0 side side' leave so there (inl early) =
    let ms = so.done in
    let m = made_under f t p.refs j in
    let next = follows f t bytes p j ms so.all there in
    let a = ahead_next t (ending t bytes) ms m next.rest so.short (subst Leave next.all leave) in
    let header : header_before t m (last_length 0 ms) ≡ header_before t m p.previous = ap (header_before t m) (sym so.previous) in
    let text = a.stream_is ∙ ap (λ l. (units_of t 0 ms ++ l) ++ a.rest) header in
    subst (λ (e : Encoding). WritesFront e out0 out' side0 side') (sym (encoding_parts f t bytes (ms ++ m ∷ next.rest) next.all)) (
      front_behind out0 out out' (units_of t 0 ms) (header_before t m p.previous) a.rest _ text so.written early.0,
      front_kept side0 side side' (raws (pushed_now ms).gone) (raws a.later) _ (ap raws a.shown_is ∙ flat_map-append raw (pushed_now ms).gone a.later) so.delivered early.1,
    )
breaks_off f t bytes p j out0 out out' side0 side side' leave so there (inr late) =
    let ms = so.done in
    let m = made_under f t p.refs j in
    let next = follows f t bytes p j ms so.all there in
    let all = ms ++ m ∷ [] in
    let a = ahead t (ending t bytes) all next.rest (all_more (λ x. is_short t x ≡ true) ms m so.short late.0) (subst Leave next.behind leave) in
    let units : units_of t 0 all ≡ units_of t 0 ms ++ picture_units t p.previous m = units_more t 0 ms m ∙ ap (λ k. units_of t 0 ms ++ picture_units t k m) (sym so.previous) in
    let gone : (pushed_now all).gone ≡ (pushed_now ms).gone ++ (leaving_with m p.delivery).gone = gone_more ms m ∙ ap (λ ws. (pushed_now ms).gone ++ (leaving_with m ws).gone) (sym so.waiting) in
    let shown = ap raws (a.shown_is ∙ ap (λ l. l ++ a.later) gone) ∙ raws_parts (pushed_now ms).gone (leaving_with m p.delivery).gone a.later in
    subst (λ (e : Encoding). WritesFront e out0 out' side0 side') (sym (encoding_parts f t bytes (all ++ next.rest) next.behind)) (
      front_behind out0 out out' (units_of t 0 ms) (picture_units t p.previous m) a.rest _ (a.stream_is ∙ ap (λ l. l ++ a.rest) units) so.written late.1,
      front_behind side0 side side' (raws (pushed_now ms).gone) (raws (leaving_with m p.delivery).gone) (raws a.later) _ shown so.delivered late.2,
    )

-- the unit is too long
pub too_long : (f : IndexRule) (t : Settings) (bytes : List ℕ) (p : Progress) (j : Job) (number : ℕ) (out0 out out' side0 side side' : Option (List ℕ)) → CodingStands f t bytes p out0 out side0 side → slice_get (jobs_in t bytes) p.count ≡ Some j
    → IsTooLong t (made_under f t p.refs j) number p out out' side side' → AnswersEncodedStream (encoded.UnitTooLong number) (encoding_under f t bytes) out0 out' side0 side'
too_long f t bytes p j number out0 out out' side0 side side' so there is =
    let ms = so.done in
    let m = made_under f t p.refs j in
    let next = follows f t bytes p j ms so.all there in
    let same = encoding_parts f t bytes (ms ++ m ∷ next.rest) next.all ∙ ends_long t (ending t bytes) ms m next.rest so.short is.long in
    let header : header_before t m (last_length 0 ms) ≡ header_before t m p.previous = ap (header_before t m) (sym so.previous) in
    subst (λ (e : Encoding). AnswersEncodedStream (encoded.UnitTooLong number) e out0 out' side0 side') (sym same) (
      ap encoded.UnitTooLong is.same,
      (
        subst (λ (l : List ℕ). Appends out0 out' (units_of t 0 ms ++ l)) (sym header) (Appends-trans out0 out out' (units_of t 0 ms) (header_before t m p.previous) so.written is.written),
        Appends-kept side0 side side' (raws (pushed_now ms).gone) so.delivered is.kept,
      ),
    )

-- ---- the end

-- all are coded
closing_so : (f : IndexRule) (t : Settings) (bytes : List ℕ) (p : Progress) (answer : Encoded) (out0 out side0 side : Option (List ℕ)) → Leave (coding_in f t bytes) → (so : CodingStands f t bytes p out0 out side0 side) → length (jobs_in t bytes) ≤ p.count → ending t bytes ≡ answer
    → encoding_under f t bytes ≡ record { answer = answer; stream = units_of t 0 so.done ++ last_units t p.count p.previous; shown = (pushed_now so.done).gone ++ flushed p.delivery }
closing_so f t bytes p answer out0 out side0 side leave so few answers =
    let ms = so.done in
    let all : coding_in f t bytes ≡ ms = coded_all f t (coding_in f t bytes) ms p.refs (jobs_in t bytes) p.count so.all few in
    let make : Encoded → ℕ → ℕ → List Waiting → Encoding = λ a count previous ws. record { answer = a; stream = units_of t 0 ms ++ last_units t count previous; shown = (pushed_now ms).gone ++ flushed ws } in
    encoding_parts f t bytes ms all ∙ ends_whole t (ending t bytes) ms so.short (subst Leave all leave)
    ∙ ap (λ l. record { answer = ending t bytes; stream = units_of t 0 ms ++ l; shown = (pushed_now ms).gone ++ flushed (pushed_now ms).waiting }) (closing_is t ms)
    ∙ ap (λ a. make a (length ms) (last_length 0 ms) (pushed_now ms).waiting) answers
    ∙ ap (λ k. make answer k (last_length 0 ms) (pushed_now ms).waiting) so.count
    ∙ ap (λ k. make answer p.count k (pushed_now ms).waiting) (sym so.previous)
    ∙ ap (make answer p.count p.previous) (sym so.waiting)

pub ended_all : (f : IndexRule) (t : Settings) (bytes : List ℕ) (p : Progress) (answer : Encoded) (out0 out out' side0 side side' : Option (List ℕ)) → Leave (coding_in f t bytes) → CodingStands f t bytes p out0 out side0 side → length (jobs_in t bytes) ≤ p.count → ending t bytes ≡ answer
    → IsEnded t p out out' side side' → ((encoding_under f t bytes).answer ≡ answer) × WritesAll (encoding_under f t bytes) out0 out' side0 side'
ended_all f t bytes p answer out0 out out' side0 side side' leave so few answers ended =
    let ms = so.done in
    let same = closing_so f t bytes p answer out0 out side0 side leave so few answers in
    subst (λ (e : Encoding). (e.answer ≡ answer) × WritesAll e out0 out' side0 side') (sym same) (
      refl,
      (
        Appends-trans out0 out out' (units_of t 0 ms) (last_units t p.count p.previous) so.written ended.written,
        subst (λ (l : List ℕ). Appends side0 side' l) (sym (flat_map-append raw (pushed_now ms).gone (flushed p.delivery)))
            (Appends-trans side0 side side' (raws (pushed_now ms).gone) (raws (flushed p.delivery)) so.delivered ended.delivered),
      ),
    )

pub ended_early : (f : IndexRule) (t : Settings) (bytes : List ℕ) (p : Progress) (answer : Encoded) (out0 out out' side0 side side' : Option (List ℕ)) → Leave (coding_in f t bytes) → CodingStands f t bytes p out0 out side0 side → length (jobs_in t bytes) ≤ p.count → ending t bytes ≡ answer
    → EndsEarly t p out out' side side' → WritesFront (encoding_under f t bytes) out0 out' side0 side'
ended_early f t bytes p answer out0 out out' side0 side side' leave so few answers early =
    let ms = so.done in
    let same = closing_so f t bytes p answer out0 out side0 side leave so few answers in
    let last = last_units t p.count p.previous in
    let gone = (pushed_now ms).gone in
    subst (λ (e : Encoding). WritesFront e out0 out' side0 side') (sym same) (
      front_behind out0 out out' (units_of t 0 ms) last [] (units_of t 0 ms ++ last) (sym (append-nil (units_of t 0 ms ++ last))) so.written early.written,
      front_behind side0 side side' (raws gone) (raws (flushed p.delivery)) [] (raws (gone ++ flushed p.delivery)) (flat_map-append raw gone (flushed p.delivery) ∙ sym (append-nil (raws gone ++ raws (flushed p.delivery)))) so.delivered early.delivered,
    )

-- ---- one raw picture more

whole_so_far : (n r len : ℕ) → n * r ≤ len → 1 ≤ r → n ≤ len / r
whole_so_far zero r len fit some = omega arith
whole_so_far (suc n) r len fit some = let more = whole_more n r len (omega (arith, fit)) some in omega (arith, more)

-- a whole raw picture that the settings allow is the source of its number
pub source_read : (t : Settings) (bytes : List ℕ) (n : ℕ) (chunk left : List ℕ) → drop (n * raw_length t) bytes ≡ chunk ++ left → length chunk ≡ raw_length t → n * raw_length t ≤ length bytes → 1 ≤ raw_length t → n < t.pictures
    → slice_get (sources t bytes) n ≡ Some (picture_from t n chunk)
source_read t bytes n chunk left is whole fit some few =
    let r = raw_length t in
    let p = picture_from t n chunk in
    let ps = pictures_in t n 0 bytes in
    let len : length (drop (n * r) bytes) ≡ length chunk + length left = ap length is ∙ length-append chunk left in
    let enough : n + 1 ≤ whole_pictures t bytes = whole_more n r (length bytes) (omega (arith, len, whole, fit, length-drop (n * r) bytes)) some in
    let all = min (whole_pictures t bytes) t.pictures in
    let place = (n + 1) * r in
    let rest = pictures_in t (all - (n + 1)) (n + 1) (drop place bytes) in
    let parts : sources t bytes ≡ pictures_in t (n + 1) 0 bytes ++ rest = pictures_parts t (n + 1) (all - (n + 1)) 0 all (n + 1) place bytes (omega (arith, few, enough)) (omega arith) refl in
    let more : pictures_in t (n + 1) 0 bytes ≡ ps ++ p ∷ [] = picture_more t n bytes chunk left is whole in
    ap (λ l. slice_get l n) (parts ∙ ap (λ l. l ++ rest) more ∙ append_assoc ps (p ∷ []) rest) ∙ at_end ps p rest n (sym (length-pictures_in t n 0 bytes))
  where
    at_end : (ps : List Picture) (p : Picture) (rest : List Picture) (n : ℕ) → n ≡ length ps → slice_get (ps ++ p ∷ rest) n ≡ Some p
    at_end [] p rest zero e = refl
    at_end [] p rest (suc n) e = absurd (omega (arith, e))
    at_end (q ∷ ps) p rest zero e = absurd (omega (arith, e))
    at_end (q ∷ ps) p rest (suc n) e = at_end ps p rest n (omega (arith, e))
