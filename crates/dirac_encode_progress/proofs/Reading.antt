-- Raw pictures that are read, planned and coded, until the source ends.
use Rattle.std.proofs.Common.{◌≡◌, ℕ, zero, suc, ◌+◌, ◌*◌, ◌<◌, ◌≤◌, ◌^◌, ◌==◌, if◌then◌else◌, Bool, true, false, List, [], ◌∷◌, ◌++◌, length, map, take, drop, refl, sym, ap, ◌∙◌, subst, arith, append-nil, length-append, length-drop, Option, None, Some}
use Rattle.std.specs.Prelude.{min, IfSome, slice_get, ◌||◌}
use Rattle.std.specs.Io.KnownBytes.{Consumes, IsAtEnd}
use Rattle.std.proofs.lemmas.Bool.{eqb-true, le-leb, lt-leb}
use Rattle.std.proofs.lemmas.List.{length-map, length-take-le}
use Rattle.std.proofs.lemmas.Option.{slice_get_within}
use Rattle.dirac_common.specs.declared.picture.Picture.{Picture}
use Rattle.dirac_types.specs.declared.settings.Settings.{Settings}
use Rattle.dirac_types.specs.Settings.{IsAccepted}
use Rattle.dirac_refs.specs.Delivery.{in_delivery_order}
use Rattle.dirac_sources.specs.Sources.{left_over, picture_from, pictures_in, raw_length, sources, whole_pictures}
use Rattle.dirac_encode_laws.specs.declared.answers.Encoded.{Encoded}
use Rattle.dirac_encode_laws.specs.declared.answers.Encoded.TheVariants as encoded
use Rattle.dirac_encode_laws.specs.Coding.{IndexRule, Job, coded_under, coding_under, job_of, made_under, keyed_reconstructions, refs_after, shown_of}
use Rattle.dirac_encode_laws.specs.Encoding.{AnswersEncodedStream, Encoding, EncodesToTheEnd, IsRecoveredUnder, WritesAll, WritesFront, answer_behind, encoding_under, ending, first_long}
use Rattle.dirac_encode_laws.specs.Stream.{StreamsAreCut}
use Rattle.dirac_encode_laws.specs.Laws.{GivesIndices, StreamsShowTheirPictures}
use Rattle.dirac_encode_laws.specs.Tables.{TablesAreChosen}
use Rattle.dirac_encode_laws.proofs.Recovered.{AreBytes, below_more, recovered}
use Rattle.dirac_encode_laws.specs.Standing.{AreAmong, Leave, coding_in, jobs_in}
use Rattle.dirac_encode_laws.specs.Steps.{EndsEarly, IsEnded, Progress}
use Rattle.dirac_encode_laws.proofs.Accepted.{most_pictures}
use Rattle.dirac_encode_laws.proofs.Encodings.{all_more, coded_all, none_long}
use Rattle.dirac_encode_laws.proofs.Sources.{front_more, left_count, length-pictures_in, rest_more, whole_count, whole_more}
use Rattle.dirac_encode_laws.proofs.Sourcing.{sources_leave}
use Rattle.dirac_encode_laws.proofs.Streams.{ended_all, ended_early, source_read, stands_first, stops_between}
use Rattle.dirac_encode_laws.specs.Steps.{IsFault, StopsCoding}
use Rattle.dirac_plan_laws.specs.Plans.{PlansCanBeCoded}
use Rattle.dirac_plan_laws.specs.Order.{by_number}
use Rattle.dirac_plan.specs.Planning.{Planning, empty_planning, is_closed, must_be_taken_first, waiting_places, with_picture}
use Rattle.dirac_plan.specs.declared.planned.Planned.{Planned}
use Rattle.dirac_plan.specs.Plan.{plan}
use Rattle.dirac_encode_progress.specs.Going.{CodingGoesOn, LeadsOn, Stops}

-- ---- all sources of some bytes

length-coded : (f : IndexRule) (t : Settings) (refs : List Picture) (jobs : List Job) → length (coded_under f t refs jobs) ≡ length jobs
unfolding coded_under
length-coded f t refs [] = refl
length-coded f t refs (j ∷ jobs) = ap suc (length-coded f t (refs_after refs (made_under f t refs j)) jobs)

few_sources : (t : Settings) (bytes : List ℕ) → IsAccepted t → length (sources t bytes) < 2 ^ 31
few_sources t bytes accepted = omega (arith, length-pictures_in t (min (whole_pictures t bytes) t.pictures) 0 bytes, most_pictures t accepted)

count_jobs : PlansCanBeCoded → (t : Settings) (bytes : List ℕ) → IsAccepted t → length (jobs_in t bytes) ≡ length (sources t bytes)
count_jobs plans t bytes accepted =
    let n = length (sources t bytes) in
    length-map (plan n t) (job_of (sources t bytes)) ∙ (plans t n accepted (omega (arith, few_sources t bytes accepted))).count

all_leave : PlansCanBeCoded → (f : IndexRule) (t : Settings) (bytes : List ℕ) → IsAccepted t → Leave (coding_under f t (sources t bytes))
all_leave plans f t bytes accepted =
    let count : length (coding_under f t (sources t bytes)) ≡ length (sources t bytes) = length-coded f t [] (jobs_in t bytes) ∙ count_jobs plans t bytes accepted in
    subst (λ (n : ℕ). in_delivery_order (keyed_reconstructions (coding_under f t (sources t bytes))) ≡ by_number n (map shown_of (coding_under f t (sources t bytes)))) (sym count) (sources_leave plans f t (sources t bytes) accepted (few_sources t bytes accepted))

-- ---- so far

pub record Runs (f : IndexRule) (t : Settings) (bytes : List ℕ) (p : Planning) (c : Progress) (held out0 out side0 side : Option (List ℕ)) : Type 0 where
  pub goes : CodingGoesOn f t bytes false p c out0 out side0 side
  pub is_held : held ≡ Some (drop (p.accepted * raw_length t) bytes)
  pub fits : p.accepted * raw_length t ≤ length bytes
  pub below : AreBytes (take (p.accepted * raw_length t) bytes)

abbrev pub SoFar : IndexRule → Settings → Option (List ℕ) → Planning → Progress → Option (List ℕ) → Option (List ℕ) → Option (List ℕ) → Option (List ℕ) → Option (List ℕ) → Type 0
SoFar f t None p c held out0 out side0 side = Unit {0}
SoFar f t (Some bytes) p c held out0 out side0 side = Runs f t bytes p c held out0 out side0 side

no_times : (n : ℕ) → 0 * n ≡ 0
no_times n = omega arith

pub so_far_first : (f : IndexRule) (t : Settings) (first : Option (List ℕ)) (p : Planning) (c : Progress) (out side : Option (List ℕ)) → p.accepted ≡ 0 → p.waiting ≡ [] → p.given ≡ 0 → c.count ≡ 0 → c.previous ≡ 0 → c.refs ≡ [] → c.delivery ≡ []
    → SoFar f t first p c first out out side side
so_far_first f t None p c out side accepted waiting given count previous refs delivery = tt
so_far_first f t (Some bytes) p c out side accepted waiting given count previous refs delivery =
    let none : p.accepted * raw_length t ≡ 0 = ap (λ k. k * raw_length t) accepted ∙ no_times (raw_length t) in
    record {
      goes = record {
        stands = stands_first f t bytes c out side count previous refs delivery;
        among = subst (AreAmong (sources t bytes)) (sym waiting) tt;
        given = given ∙ sym count;
        within = omega (arith, accepted);
        all = λ e. absurd cc;
      };
      is_held = ap (λ k. Some (drop k bytes)) (sym none);
      fits = omega (arith, none);
      below = subst (λ (k : ℕ). AreBytes (take k bytes)) (sym none) tt;
    }

-- at a fault between pictures
pub stops_here : PlansCanBeCoded → (f : IndexRule) (t : Settings) (first : Option (List ℕ)) (p : Planning) (c : Progress) (held out0 out side0 side : Option (List ℕ)) → IsAccepted t → SoFar f t first p c held out0 out side0 side → IfSome first (λ bytes. WritesFront (encoding_under f t bytes) out0 out side0 side)
stops_here plans f t None p c held out0 out side0 side accepted so = tt
stops_here plans f t (Some bytes) p c held out0 out side0 side accepted so = stops_between f t bytes c out0 out side0 side (all_leave plans f t bytes accepted) so.goes.stands

-- what a source gave of the bytes that it held
gave : (held held' : Option (List ℕ)) (rest chunk : List ℕ) → held ≡ Some rest → Consumes held held' chunk → (left : List ℕ) × (held' ≡ Some left) × (rest ≡ chunk ++ left)
gave held None rest chunk is got = absurd (subst (λ (h : Option (List ℕ)). Consumes h None chunk) is got)
gave held (Some left) rest chunk is got = (left, refl, subst (λ (h : Option (List ℕ)). Consumes h (Some left) chunk) is got)

-- ---- the end

-- all sources are accepted, and this is the answer behind them
pub record Closes (t : Settings) (bytes : List ℕ) (n : ℕ) (answer : Encoded) : Type 0 where
  pub all : n ≡ length (sources t bytes)
  pub answers : ending t bytes ≡ answer

pub closes_part : (t : Settings) (bytes : List ℕ) (n k : ℕ) (chunk left : List ℕ) → drop (n * raw_length t) bytes ≡ chunk ++ left → left ≡ [] → length chunk ≡ k → k < raw_length t → n * raw_length t ≤ length bytes → n ≤ t.pictures → Closes t bytes n (answer_behind k)
closes_part t bytes n k chunk left is none count short fit few =
    let r = raw_length t in
    let len : length (drop (n * r) bytes) ≡ length chunk = ap length is ∙ ap (λ l. length (chunk ++ l)) none ∙ ap length (append-nil chunk) in
    let total : length bytes ≡ n * r + k = omega (arith, len, count, fit, length-drop (n * r) bytes) in
    let whole : whole_pictures t bytes ≡ n = whole_count n r k (length bytes) total short in
    let over : left_over t bytes ≡ k = left_count n r k (length bytes) total short in
    record {
      all = omega (arith, length-pictures_in t (min (whole_pictures t bytes) t.pictures) 0 bytes, whole, few);
      answers = ap (λ (b : Bool). if b then answer_behind (left_over t bytes) else encoded.TooManyPictures) (le-leb (whole_pictures t bytes) t.pictures (omega (arith, whole, few))) ∙ ap answer_behind over;
    }

closes_many : (t : Settings) (bytes : List ℕ) (n : ℕ) (chunk left : List ℕ) → drop (n * raw_length t) bytes ≡ chunk ++ left → length chunk ≡ raw_length t → n * raw_length t ≤ length bytes → 1 ≤ raw_length t → n ≡ t.pictures → Closes t bytes n encoded.TooManyPictures
closes_many t bytes n chunk left is whole fit some all =
    let r = raw_length t in
    let len : length (drop (n * r) bytes) ≡ length chunk + length left = ap length is ∙ length-append chunk left in
    let enough : n + 1 ≤ whole_pictures t bytes = whole_more n r (length bytes) (omega (arith, len, whole, fit, length-drop (n * r) bytes)) some in
    record {
      all = omega (arith, length-pictures_in t (min (whole_pictures t bytes) t.pictures) 0 bytes, enough, all);
      answers = ap (λ (b : Bool). if b then answer_behind (left_over t bytes) else encoded.TooManyPictures) (lt-leb (whole_pictures t bytes) t.pictures (omega (arith, enough, all)));
    }

-- no more pictures come
pub record Ending (f : IndexRule) (t : Settings) (bytes : List ℕ) (p : Planning) (c : Progress) (answer : Encoded) (out0 out side0 side : Option (List ℕ)) : Type 0 where
  pub closes : Closes t bytes p.accepted answer
  pub goes : CodingGoesOn f t bytes true p c out0 out side0 side
  pub fits : p.accepted * raw_length t ≤ length bytes
  pub below : AreBytes (take (p.accepted * raw_length t) bytes)

-- where the source tells
pub Ends : IndexRule → Settings → Option (List ℕ) → Planning → Progress → Encoded → Option (List ℕ) → Option (List ℕ) → Option (List ℕ) → Option (List ℕ) → Type 0
Ends f t None p c answer out0 out side0 side = Unit {0}
Ends f t (Some bytes) p c answer out0 out side0 side = Ending f t bytes p c answer out0 out side0 side

ends_so : (f : IndexRule) (t : Settings) (bytes : List ℕ) (p : Planning) (c : Progress) (answer : Encoded) (held out0 out side0 side : Option (List ℕ)) → Runs f t bytes p c held out0 out side0 side → Closes t bytes p.accepted answer → Ending f t bytes p c answer out0 out side0 side
ends_so f t bytes p c answer held out0 out side0 side so closes = record {
  closes = closes;
  goes = record { stands = so.goes.stands; among = so.goes.among; given = so.goes.given; within = so.goes.within; all = λ e. closes.all };
  fits = so.fits;
  below = so.below;
}

pub part_ends : (f : IndexRule) (t : Settings) (first : Option (List ℕ)) (p : Planning) (c : Progress) (held held' out0 out side0 side : Option (List ℕ)) (buf : List ℕ) (k : ℕ) → SoFar f t first p c held out0 out side0 side → Consumes held held' (take k buf) → IsAtEnd held' → k < length buf → length buf ≡ raw_length t → p.accepted ≤ t.pictures
    → Ends f t first p c (answer_behind k) out0 out side0 side
unfolding Ends
part_ends f t None p c held held' out0 out side0 side buf k so got end short whole few = tt
part_ends f t (Some bytes) p c held held' out0 out side0 side buf k so got end short whole few =
    let rest = gave held held' (drop (p.accepted * raw_length t) bytes) (take k buf) so.is_held got in
    ends_so f t bytes p c (answer_behind k) held out0 out side0 side so
    (closes_part t bytes p.accepted k (take k buf) rest.0 rest.2 (subst IsAtEnd rest.1 end) (length-take-le k buf (omega (arith, short))) (omega (arith, short, whole)) so.fits few)

pub many_ends : (f : IndexRule) (t : Settings) (first : Option (List ℕ)) (p : Planning) (c : Progress) (held held' out0 out side0 side : Option (List ℕ)) (chunk : List ℕ) → SoFar f t first p c held out0 out side0 side → Consumes held held' chunk → length chunk ≡ raw_length t → 1 ≤ raw_length t → p.accepted ≡ t.pictures
    → Ends f t first p c encoded.TooManyPictures out0 out side0 side
unfolding Ends
many_ends f t None p c held held' out0 out side0 side chunk so got whole some all = tt
many_ends f t (Some bytes) p c held held' out0 out side0 side chunk so got whole some all =
    let rest = gave held held' (drop (p.accepted * raw_length t) bytes) chunk so.is_held got in
    ends_so f t bytes p c encoded.TooManyPictures held out0 out side0 side so (closes_many t bytes p.accepted chunk rest.0 rest.2 whole so.fits some all)

pub end_stops : PlansCanBeCoded → (f : IndexRule) (t : Settings) (first : Option (List ℕ)) (p : Planning) (c : Progress) (last answer : Encoded) (out0 out out' side0 side side' : Option (List ℕ)) → IsAccepted t → Ends f t first p c last out0 out side0 side → Stops f t true p c answer out out' side side'
    → IfSome first (λ bytes. AnswersEncodedStream answer (encoding_under f t bytes) out0 out' side0 side')
unfolding Ends
end_stops plans f t None p c last answer out0 out out' side0 side side' accepted ends stops = tt
end_stops plans f t (Some bytes) p c last answer out0 out out' side0 side side' accepted ends stops = stops bytes out0 side0 (all_leave plans f t bytes accepted) ends.goes

answers_fault : (fault : Encoded) (e : Encoding) (out out' side side' : Option (List ℕ)) → IsFault fault → WritesFront e out out' side side' → AnswersEncodedStream fault e out out' side side'
answers_fault encoded.WriteFault e out out' side side' is front = front
answers_fault encoded.SideFault e out out' side side' is front = front
answers_fault encoded.NoMemory e out out' side side' is front = front
answers_fault encoded.Done e out out' side side' is front = absurd is
answers_fault (encoded.PartialPicture n) e out out' side side' is front = absurd is
answers_fault (encoded.UnitTooLong n) e out out' side side' is front = absurd is
answers_fault encoded.TooManyPictures e out out' side side' is front = absurd is
answers_fault encoded.ReadFault e out out' side side' is front = absurd is

jobs_done : PlansCanBeCoded → (f : IndexRule) (t : Settings) (bytes : List ℕ) (p p' : Planning) (c' : Progress) (answer : Encoded) (out0 out side0 side : Option (List ℕ)) → IsAccepted t → Closes t bytes p.accepted answer → CodingGoesOn f t bytes true p' c' out0 out side0 side → p'.given ≡ p'.accepted → p'.accepted ≡ p.accepted
    → length (jobs_in t bytes) ≤ c'.count
jobs_done plans f t bytes p p' c' answer out0 out side0 side accepted closes goes given same = omega (arith, count_jobs plans t bytes accepted, closes.all, goes.given, given, same)

pub end_early : PlansCanBeCoded → (f : IndexRule) (t : Settings) (first : Option (List ℕ)) (p p' : Planning) (c c' : Progress) (answer fault : Encoded) (out0 out mid out' side0 side amid side' : Option (List ℕ)) → IsAccepted t → Ends f t first p c answer out0 out side0 side
    → LeadsOn f t true p p' c c' out mid side amid → p'.given ≡ p'.accepted → p'.accepted ≡ p.accepted → IsFault fault → EndsEarly t c' mid out' amid side' → IfSome first (λ bytes. AnswersEncodedStream fault (encoding_under f t bytes) out0 out' side0 side')
unfolding Ends
end_early plans f t None p p' c c' answer fault out0 out mid out' side0 side amid side' accepted ends led given same is early = tt
end_early plans f t (Some bytes) p p' c c' answer fault out0 out mid out' side0 side amid side' accepted ends led given same is early =
    let goes = led bytes out0 side0 ends.goes in
    answers_fault fault (encoding_under f t bytes) out0 out' side0 side' is
    (ended_early f t bytes c' answer out0 mid out' side0 amid side' (all_leave plans f t bytes accepted) goes.stands (jobs_done plans f t bytes p p' c' answer out0 mid side0 amid accepted ends.closes goes given same) ends.closes.answers early)

answers_behind : (k : ℕ) (b : Bool) (e : Encoding) (out out' side side' : Option (List ℕ)) → (e.answer ≡ (if b then encoded.Done else encoded.PartialPicture k)) × WritesAll e out out' side side'
    → AnswersEncodedStream (if b then encoded.Done else encoded.PartialPicture k) e out out' side side'
answers_behind k true e out out' side side' is = (sym is.0, is.1)
answers_behind k false e out out' side side' is = (sym is.0, is.1)

pub part_ended : PlansCanBeCoded → (f : IndexRule) (t : Settings) (first : Option (List ℕ)) (p p' : Planning) (c c' : Progress) (k : ℕ) (out0 out mid out' side0 side amid side' : Option (List ℕ)) → IsAccepted t → Ends f t first p c (answer_behind k) out0 out side0 side
    → LeadsOn f t true p p' c c' out mid side amid → p'.given ≡ p'.accepted → p'.accepted ≡ p.accepted → IsEnded t c' mid out' amid side' → IfSome first (λ bytes. AnswersEncodedStream (answer_behind k) (encoding_under f t bytes) out0 out' side0 side')
unfolding Ends
part_ended plans f t None p p' c c' k out0 out mid out' side0 side amid side' accepted ends led given same ended = tt
part_ended plans f t (Some bytes) p p' c c' k out0 out mid out' side0 side amid side' accepted ends led given same ended =
    let goes = led bytes out0 side0 ends.goes in
    answers_behind k (k == 0) (encoding_under f t bytes) out0 out' side0 side'
    (ended_all f t bytes c' (answer_behind k) out0 mid out' side0 amid side' (all_leave plans f t bytes accepted) goes.stands (jobs_done plans f t bytes p p' c' (answer_behind k) out0 mid side0 amid accepted ends.closes goes given same) ends.closes.answers ended)

pub many_ended : PlansCanBeCoded → (f : IndexRule) (t : Settings) (first : Option (List ℕ)) (p p' : Planning) (c c' : Progress) (out0 out mid out' side0 side amid side' : Option (List ℕ)) → IsAccepted t → Ends f t first p c encoded.TooManyPictures out0 out side0 side
    → LeadsOn f t true p p' c c' out mid side amid → p'.given ≡ p'.accepted → p'.accepted ≡ p.accepted → IsEnded t c' mid out' amid side' → IfSome first (λ bytes. AnswersEncodedStream encoded.TooManyPictures (encoding_under f t bytes) out0 out' side0 side')
unfolding Ends
many_ended plans f t None p p' c c' out0 out mid out' side0 side amid side' accepted ends led given same ended = tt
many_ended plans f t (Some bytes) p p' c c' out0 out mid out' side0 side amid side' accepted ends led given same ended =
    let goes = led bytes out0 side0 ends.goes in
    let is = ended_all f t bytes c' encoded.TooManyPictures out0 mid out' side0 amid side' (all_leave plans f t bytes accepted) goes.stands (jobs_done plans f t bytes p p' c' encoded.TooManyPictures out0 mid side0 amid accepted ends.closes goes given same) ends.closes.answers ended in
    (sym is.0, is.1)

recovers : StreamsShowTheirPictures → StreamsAreCut → PlansCanBeCoded → TablesAreChosen → (f : IndexRule) → GivesIndices f → (t : Settings) (bytes : List ℕ) (p p' : Planning) (c c' : Progress) (answer : Encoded) (out0 out mid side0 side amid : Option (List ℕ)) → IsAccepted t → p.accepted ≤ t.pictures → Ending f t bytes p c answer out0 out side0 side
    → CodingGoesOn f t bytes true p' c' out0 mid side0 amid → p'.given ≡ p'.accepted → p'.accepted ≡ p.accepted → IsRecoveredUnder f t bytes
recovers law cuts plans tables f gives t bytes p p' c c' answer out0 out mid side0 side amid accepted few ends goes given same =
    let n = p.accepted in
    let all = coded_all f t (coding_in f t bytes) goes.stands.done c'.refs (jobs_in t bytes) c'.count goes.stands.all (jobs_done plans f t bytes p p' c' answer out0 mid side0 amid accepted ends.closes goes given same) in
    let short : first_long t (coding_in f t bytes) ≡ None = ap (first_long t) all ∙ none_long t goes.stands.done goes.stands.short in
    let first : sources t bytes ≡ pictures_in t n 0 bytes = ap (λ k. pictures_in t k 0 bytes) (sym (ends.closes.all ∙ length-pictures_in t (min (whole_pictures t bytes) t.pictures) 0 bytes)) in
    recovered law cuts plans tables f gives t n bytes accepted ends.fits few ends.below first short

pub ends_recovered : StreamsShowTheirPictures → StreamsAreCut → PlansCanBeCoded → TablesAreChosen → (f : IndexRule) → GivesIndices f → (t : Settings) (first : Option (List ℕ)) (p p' : Planning) (c c' : Progress) (answer last : Encoded) (out0 out mid side0 side amid : Option (List ℕ)) → IsAccepted t → p.accepted ≤ t.pictures
    → Ends f t first p c answer out0 out side0 side → LeadsOn f t true p p' c c' out mid side amid → p'.given ≡ p'.accepted → p'.accepted ≡ p.accepted → IfSome first (λ bytes. EncodesToTheEnd last → IsRecoveredUnder f t bytes)
unfolding Ends
ends_recovered law cuts plans tables f gives t None p p' c c' answer last out0 out mid side0 side amid accepted few ends led given same = tt
ends_recovered law cuts plans tables f gives t (Some bytes) p p' c c' answer last out0 out mid side0 side amid accepted few ends led given same =
    λ whole. recovers law cuts plans tables f gives t bytes p p' c c' answer out0 out mid side0 side amid accepted few ends (led bytes out0 side0 ends.goes) given same

no_end : (answer : Encoded) → StopsCoding answer → EncodesToTheEnd answer → ⊥
no_end encoded.WriteFault is ends = ends
no_end encoded.SideFault is ends = ends
no_end encoded.NoMemory is ends = ends
no_end encoded.ReadFault is ends = ends
no_end (encoded.UnitTooLong n) is ends = ends
no_end encoded.Done is ends = absurd is
no_end (encoded.PartialPicture n) is ends = absurd is
no_end encoded.TooManyPictures is ends = absurd is

-- where coding stops there is no whole stream
pub stopped_before_the_end : (f : IndexRule) (t : Settings) (first : Option (List ℕ)) (answer : Encoded) → StopsCoding answer → IfSome first (λ bytes. EncodesToTheEnd answer → IsRecoveredUnder f t bytes)
stopped_before_the_end f t None answer is = tt
stopped_before_the_end f t (Some bytes) answer is = λ ends. absurd (no_end answer is ends)

pub fault_stops_coding : (answer : Encoded) → IsFault answer → StopsCoding answer
fault_stops_coding encoded.WriteFault is = tt
fault_stops_coding encoded.SideFault is = tt
fault_stops_coding encoded.NoMemory is = tt
fault_stops_coding encoded.ReadFault is = is
fault_stops_coding (encoded.UnitTooLong n) is = tt
fault_stops_coding encoded.Done is = is
fault_stops_coding (encoded.PartialPicture n) is = is
fault_stops_coding encoded.TooManyPictures is = is

pub stop_no_part : (answer : Encoded) (n : ℕ) → StopsCoding answer → answer ≡ encoded.PartialPicture n → ⊥
stop_no_part answer n is e = subst StopsCoding e is

-- ---- what is left over

IsPart : Encoded → Type 0
IsPart (encoded.PartialPicture n) = Unit {0}
IsPart answer = ⊥

part_of : Encoded → ℕ
part_of (encoded.PartialPicture n) = n
part_of answer = 0

part_some : (b : Bool) (k n : ℕ) → (k == 0) ≡ b → (if b then encoded.Done else encoded.PartialPicture k) ≡ encoded.PartialPicture n → 1 ≤ n
unfolding IsPart part_of
part_some true k n is e = absurd (subst IsPart (sym e) tt)
part_some false zero n is e = absurd cc
part_some false (suc k) n is e = let same : suc k ≡ n = ap part_of e in omega (arith, same)

pub behind_some : (k n : ℕ) → answer_behind k ≡ encoded.PartialPicture n → 1 ≤ n
behind_some k n is = part_some (k == 0) k n refl is

-- ---- one raw picture more

next_so : (f : IndexRule) (t : Settings) (bytes : List ℕ) (p : Planning) (c : Progress) (held held' out0 out side0 side : Option (List ℕ)) (chunk : List ℕ) → Runs f t bytes p c held out0 out side0 side → Consumes held held' chunk → AreBytes chunk → length chunk ≡ raw_length t → 1 ≤ raw_length t → p.accepted < t.pictures
    → Runs f t bytes (with_picture p (picture_from t p.accepted chunk)) c held' out0 out side0 side
next_so f t bytes p c held held' out0 out side0 side chunk so got are_bytes whole some few =
    let n = p.accepted in
    let r = raw_length t in
    let rest = gave held held' (drop (n * r) bytes) chunk so.is_held got in
    let there : slice_get (sources t bytes) n ≡ Some (picture_from t n chunk) = source_read t bytes n chunk rest.0 rest.2 whole so.fits some few in
    let within : n < length (sources t bytes) = slice_get_within (sources t bytes) n (picture_from t n chunk) there in
    let len : length (drop (n * r) bytes) ≡ length chunk + length rest.0 = ap length rest.2 ∙ length-append chunk rest.0 in
    let place : (n + 1) * r ≡ n * r + r = omega arith in
    record {
      goes = record {
        stands = so.goes.stands;
        among = all_more (λ (x : Picture). slice_get (sources t bytes) x.number ≡ Some x) p.waiting (picture_from t n chunk) so.goes.among there;
        given = so.goes.given;
        within = omega (arith, within);
        all = λ e. absurd cc;
      };
      is_held = rest.1 ∙ ap Some (sym (rest_more n r ((n + 1) * r) bytes chunk rest.0 rest.2 whole refl));
      fits = omega (arith, place, so.fits, len, length-drop (n * r) bytes, whole);
      below = subst AreBytes (sym (front_more n r ((n + 1) * r) bytes chunk rest.0 rest.2 whole refl)) (below_more (take (n * r) bytes) chunk so.below are_bytes);
    }

pub next_stops : PlansCanBeCoded → (f : IndexRule) (t : Settings) (first : Option (List ℕ)) (p q : Planning) (c : Progress) (answer : Encoded) (held held' out0 out out' side0 side side' : Option (List ℕ)) (chunk : List ℕ) → IsAccepted t → SoFar f t first p c held out0 out side0 side → Consumes held held' chunk → AreBytes chunk → length chunk ≡ raw_length t
    → 1 ≤ raw_length t → p.accepted < t.pictures → q ≡ with_picture p (picture_from t p.accepted chunk) → Stops f t false q c answer out out' side side' → IfSome first (λ bytes. AnswersEncodedStream answer (encoding_under f t bytes) out0 out' side0 side')
next_stops plans f t None p q c answer held held' out0 out out' side0 side side' chunk accepted so got are_bytes whole some few is stops = tt
next_stops plans f t (Some bytes) p q c answer held held' out0 out out' side0 side side' chunk accepted so got are_bytes whole some few is stops =
    stops bytes out0 side0 (all_leave plans f t bytes accepted) (subst (λ (x : Planning). CodingGoesOn f t bytes false x c out0 out side0 side) (sym is) (next_so f t bytes p c held held' out0 out side0 side chunk so got are_bytes whole some few).goes)

pub next_leads : (f : IndexRule) (t : Settings) (first : Option (List ℕ)) (p q p' : Planning) (c c' : Progress) (held held' out0 out out' side0 side side' : Option (List ℕ)) (chunk : List ℕ) → SoFar f t first p c held out0 out side0 side → Consumes held held' chunk → AreBytes chunk → length chunk ≡ raw_length t
    → 1 ≤ raw_length t → p.accepted < t.pictures → q ≡ with_picture p (picture_from t p.accepted chunk) → LeadsOn f t false q p' c c' out out' side side' → p'.accepted ≡ q.accepted → SoFar f t first p' c' held' out0 out' side0 side'
next_leads f t None p q p' c c' held held' out0 out out' side0 side side' chunk so got are_bytes whole some few is led same = tt
next_leads f t (Some bytes) p q p' c c' held held' out0 out out' side0 side side' chunk so got are_bytes whole some few is led same =
    let next = subst (λ (x : Planning). Runs f t bytes x c held' out0 out side0 side) (sym is) (next_so f t bytes p c held held' out0 out side0 side chunk so got are_bytes whole some few) in
    record {
      goes = led bytes out0 side0 next.goes;
      is_held = next.is_held ∙ ap (λ k. Some (drop (k * raw_length t) bytes)) (sym same);
      fits = omega (arith, next.fits, ap (λ k. k * raw_length t) same);
      below = subst (λ (k : ℕ). AreBytes (take (k * raw_length t) bytes)) (sym same) next.below;
    }

-- ---- what waits is coded, and nothing is read

pub all_full : (n : ℕ) (p : Planning) (t : Settings) → n ≡ p.accepted → (n == t.pictures) ≡ true → p.accepted ≡ t.pictures
all_full n p t is full = sym is ∙ eqb-true n t.pictures full

-- as many pictures as the settings allow are all sources, whatever follows
goes_full : (f : IndexRule) (t : Settings) (bytes : List ℕ) (full : Bool) (p : Planning) (c : Progress) (out0 out side0 side : Option (List ℕ)) → (full ≡ true → p.accepted ≡ t.pictures) → CodingGoesOn f t bytes false p c out0 out side0 side → CodingGoesOn f t bytes full p c out0 out side0 side
goes_full f t bytes full p c out0 out side0 side all g = record {
  stands = g.stands;
  among = g.among;
  given = g.given;
  within = g.within;
  all = λ e. omega (arith, all e, g.within, length-pictures_in t (min (whole_pictures t bytes) t.pictures) 0 bytes);
}

pub waits_stops : PlansCanBeCoded → (f : IndexRule) (t : Settings) (full : Bool) (first : Option (List ℕ)) (p : Planning) (c : Progress) (answer : Encoded) (held out0 out out' side0 side side' : Option (List ℕ)) → IsAccepted t → (full ≡ true → p.accepted ≡ t.pictures) → SoFar f t first p c held out0 out side0 side
    → Stops f t full p c answer out out' side side' → IfSome first (λ bytes. AnswersEncodedStream answer (encoding_under f t bytes) out0 out' side0 side')
waits_stops plans f t full None p c answer held out0 out out' side0 side side' accepted all so stops = tt
waits_stops plans f t full (Some bytes) p c answer held out0 out out' side0 side side' accepted all so stops =
    stops bytes out0 side0 (all_leave plans f t bytes accepted) (goes_full f t bytes full p c out0 out side0 side all so.goes)

pub waits_leads : (f : IndexRule) (t : Settings) (full : Bool) (first : Option (List ℕ)) (p p' : Planning) (c c' : Progress) (held out0 out out' side0 side side' : Option (List ℕ)) → (full ≡ true → p.accepted ≡ t.pictures) → SoFar f t first p c held out0 out side0 side → LeadsOn f t full p p' c c' out out' side side' → p'.accepted ≡ p.accepted
    → SoFar f t first p' c' held out0 out' side0 side'
waits_leads f t full None p p' c c' held out0 out out' side0 side side' all so led same = tt
waits_leads f t full (Some bytes) p p' c c' held out0 out out' side0 side side' all so led same =
    let g = led bytes out0 side0 (goes_full f t bytes full p c out0 out side0 side all so.goes) in
    record {
      goes = record { stands = g.stands; among = g.among; given = g.given; within = g.within; all = λ e. absurd cc };
      is_held = so.is_held ∙ ap (λ k. Some (drop (k * raw_length t) bytes)) (sym same);
      fits = omega (arith, so.fits, ap (λ k. k * raw_length t) same);
      below = subst (λ (k : ℕ). AreBytes (take (k * raw_length t) bytes)) (sym same) so.below;
    }

-- ---- the first picture

no_items : (l : List Planned) → length l ≡ 0 → l ≡ []
no_items [] e = refl
no_items (q ∷ l) e = absurd cc

pub open_at_first : PlansCanBeCoded → (t : Settings) → IsAccepted t → is_closed (empty_planning t) ≡ false
open_at_first plans t accepted =
    ap (λ (l : List Planned). (0 == waiting_places t) || must_be_taken_first t (slice_get l 0)) (no_items (plan 0 t) (plans t 0 accepted (omega arith)).count)
    ∙ ap (λ (b : Bool). b || false) (some_places (t.fields == 0))
  where
    some_places : (b : Bool) → (0 == (if b then 1 else 2) * 4) ≡ false
    some_places true = refl
    some_places false = refl
