-- What is delivered beside a whole stream is what the stream shows.
use Rattle.std.proofs.Common.{◌≡◌, ◌∙◌, ℕ, suc, ◌<◌, ◌^◌, List, [], ◌∷◌, length, map, refl, sym, ap, subst, arith}
use Rattle.std.proofs.Common.{Option, None, Some}
use Rattle.std.specs.Prelude.{min, IfSome}
use Rattle.std.specs.Io.KnownBytes.{Appends}
use Rattle.std.proofs.lemmas.List.{length-map}
use Rattle.dirac_common.specs.declared.picture.Picture.{Picture}
use Rattle.dirac_types.specs.declared.settings.Settings.{Settings}
use Rattle.dirac_types.specs.Settings.{IsAccepted}
use Rattle.dirac_plan.specs.Plan.{plan}
use Rattle.dirac_plan_laws.specs.Order.{by_number}
use Rattle.dirac_plan_laws.specs.Plans.{PlansCanBeCoded}
use Rattle.dirac_sources.specs.Sources.{sources, whole_pictures}
use Rattle.dirac_content.specs.Raw.{raws}
use Rattle.dirac_content.specs.Shown.{IsShown, Outcome}
use Rattle.dirac_encode_laws.specs.declared.answers.Encoded.{Encoded}
use Rattle.dirac_encode_laws.specs.declared.answers.Encoded.TheVariants as encoded
use Rattle.dirac_encode_laws.specs.Coding.{IndexRule, Job, Made, coded_under, coding_under, job_of, made_under}
use Rattle.dirac_encode_laws.specs.Coding.{own_index, reconstructions_under, refs_after, shown_of}
use Rattle.dirac_encode_laws.specs.Encoding.{IsRecovered, encoding, encoding_by, encoding_under, ending, first_long}
use Rattle.dirac_encode_laws.specs.Fit.{fit}
use Rattle.dirac_encode_laws.specs.Standing.{jobs_in}
use Rattle.dirac_encode_laws.specs.Stream.{stream_under}
use Rattle.dirac_encode_laws.proofs.Accepted.{most_pictures}
use Rattle.dirac_encode_laws.proofs.Sources.{length-pictures_in}
use Rattle.dirac_command_line.specs.declared.ended.Ended.{Ended}
use Rattle.dirac_command_line.specs.declared.ended.Ended.TheVariants as ended
use Rattle.dirac_encode_commands.specs.Delivered.{DeliversShown, SideGetsShown}
use Rattle.dirac_generator.specs.Generated.{generated_from}
use Rattle.dirac_encode_commands.specs.Encoding.{AnswersEncode, EndsStream, IsEncoded}
use Rattle.dirac_encode_commands.specs.Making.{making}
use Rattle.dirac_encode_commands.specs.Rating.{IsRated}

length-coded : (f : IndexRule) (t : Settings) (refs : List Picture) (jobs : List Job)
    → length (coded_under f t refs jobs) ≡ length jobs
unfolding coded_under
length-coded f t refs [] = refl
length-coded f t refs (j ∷ jobs) = ap suc (length-coded f t (refs_after refs (made_under f t refs j)) jobs)

-- as many pictures are coded as there are
all_coded : PlansCanBeCoded → (f : IndexRule) (t : Settings) (bytes : List ℕ) → IsAccepted t
    → length (coding_under f t (sources t bytes)) ≡ length (sources t bytes)
all_coded plans f t bytes accepted =
    let n = length (sources t bytes) in
    let few : n < 2 ^ 31 = omega (arith, length-pictures_in t (min (whole_pictures t bytes) t.pictures) 0 bytes, most_pictures t accepted) in
    length-coded f t [] (jobs_in t bytes) ∙ length-map (plan n t) (job_of (sources t bytes)) ∙ (plans t n accepted (omega (arith, few))).count

-- the stream of these bytes' pictures shows their reconstructions, and has no fault
abbrev pub ShowsAll : IndexRule → Settings → List ℕ → Type 0
ShowsAll f t bytes =
    (o : Outcome) × IsShown (stream_under f t (sources t bytes)) o × (o.shown ≡ reconstructions_under f t (sources t bytes)) × (o.end ≡ None)

-- where no unit is too long
pub delivers_shown : PlansCanBeCoded → (f : IndexRule) (t : Settings) (bytes : List ℕ) → IsAccepted t
    → first_long t (coding_under f t (sources t bytes)) ≡ None → ShowsAll f t bytes
    → DeliversShown (encoding_under f t bytes)
unfolding encoding_under
delivers_shown plans f t bytes accepted short shows =
    let ms = coding_under f t (sources t bytes) in
    let same : by_number (length ms) (map shown_of ms) ≡ shows.0.shown =
    ap (λ (n : ℕ). by_number n (map shown_of ms)) (all_coded plans f t bytes accepted) ∙ sym shows.2 in
    subst (λ (first : Option Made). DeliversShown (encoding_by t (ending t bytes) ms first)) (sym short) (shows.0, shows.1, shows.3, same)

-- an answer behind a whole stream comes where no unit is too long
none_long : (t : Settings) (answer : Ended) (last : Encoded) (ms : List Made) (first : Option Made) (out out' side side' : Option (List ℕ)) → EndsStream answer → AnswersEncode answer (encoding_by t last ms first) out out' side side' → first ≡ None
none_long t answer last ms None out out' side side' ends is = refl
none_long t ended.Done last ms (Some m) out out' side side' ends is =
    absurd (let no : ended.Done ≡ ended.UnitTooLong m.coded.header.number = is.0 in cc)
none_long t (ended.PartialPicture n) last ms (Some m) out out' side side' ends is =
    absurd (let no : ended.PartialPicture n ≡ ended.UnitTooLong m.coded.header.number = is.0 in cc)
none_long t ended.TooManyPictures last ms (Some m) out out' side side' ends is =
    absurd (let no : ended.TooManyPictures ≡ ended.UnitTooLong m.coded.header.number = is.0 in cc)
none_long t (ended.Usage n) last ms (Some m) out out' side side' ends is = absurd ends
none_long t (ended.BadSettings bad) last ms (Some m) out out' side side' ends is = absurd ends
none_long t (ended.Fault fault) last ms (Some m) out out' side side' ends is = absurd ends
none_long t (ended.UnitTooLong n) last ms (Some m) out out' side side' ends is = absurd ends
none_long t ended.ReadFault last ms (Some m) out out' side side' ends is = absurd ends
none_long t ended.WriteFault last ms (Some m) out out' side side' ends is = absurd ends
none_long t ended.SideFault last ms (Some m) out out' side side' ends is = absurd ends
none_long t ended.NoMemory last ms (Some m) out out' side side' ends is = absurd ends
none_long t (ended.NoSuchPoint n) last ms (Some m) out out' side side' ends is = absurd ends
none_long t (ended.OpenCut n) last ms (Some m) out out' side side' ends is = absurd ends

-- what the side got behind a whole stream
side_got : (f : IndexRule) (t : Settings) (bytes : List ℕ) (answer : Ended) (out out' side side' : Option (List ℕ))
    → EndsStream answer → AnswersEncode answer (encoding_under f t bytes) out out' side side'
    → Appends side side' (raws (encoding_under f t bytes).shown)
side_got f t bytes ended.Done out out' side side' ends is = is.1.1
side_got f t bytes (ended.PartialPicture n) out out' side side' ends is = is.1.1
side_got f t bytes ended.TooManyPictures out out' side side' ends is = is.1.1
side_got f t bytes (ended.Usage n) out out' side side' ends is = absurd ends
side_got f t bytes (ended.BadSettings bad) out out' side side' ends is = absurd ends
side_got f t bytes (ended.Fault fault) out out' side side' ends is = absurd ends
side_got f t bytes (ended.UnitTooLong n) out out' side side' ends is = absurd ends
side_got f t bytes ended.ReadFault out out' side side' ends is = absurd ends
side_got f t bytes ended.WriteFault out out' side side' ends is = absurd ends
side_got f t bytes ended.SideFault out out' side side' ends is = absurd ends
side_got f t bytes ended.NoMemory out out' side side' ends is = absurd ends
side_got f t bytes (ended.NoSuchPoint n) out out' side side' ends is = absurd ends
side_got f t bytes (ended.OpenCut n) out out' side side' ends is = absurd ends

no_long : (f : IndexRule) (t : Settings) (bytes : List ℕ) (answer : Ended) (out out' side side' : Option (List ℕ))
    → EndsStream answer → AnswersEncode answer (encoding_under f t bytes) out out' side side'
    → first_long t (coding_under f t (sources t bytes)) ≡ None
unfolding encoding_under
no_long f t bytes answer out out' side side' ends is =
    none_long t answer (ending t bytes) (coding_under f t (sources t bytes)) (first_long t (coding_under f t (sources t bytes))) out out' side side' ends is

-- an encoding is done where no unit is too long
done_by : (t : Settings) (last : Encoded) (ms : List Made) (first : Option Made)
    → encoded.Done ≡ (encoding_by t last ms first).answer → first ≡ None
done_by t last ms None is = refl
done_by t last ms (Some m) is = absurd cc

done_short : (t : Settings) (bytes : List ℕ) → encoded.Done ≡ (encoding t bytes).answer
    → first_long t (coding_under own_index t (sources t bytes)) ≡ None
unfolding encoding_under
done_short t bytes is =
    done_by t (ending t bytes) (coding_under own_index t (sources t bytes))
    (first_long t (coding_under own_index t (sources t bytes))) is

side_shown : PlansCanBeCoded
    → (f : IndexRule) (t : Settings) (bytes : List ℕ) (answer : Ended) (out out' side side' : Option (List ℕ))
    → IsAccepted t → AnswersEncode answer (encoding_under f t bytes) out out' side side'
    → (EndsStream answer → ShowsAll f t bytes) → EndsStream answer → SideGetsShown (encoding_under f t bytes) side side'
side_shown plans f t bytes answer out out' side side' accepted is shows ends =
    let whole = delivers_shown plans f t bytes accepted (no_long f t bytes answer out out' side side' ends is) (shows ends) in
    (whole.0, whole.1, whole.2, subst (λ (ps : List Picture). Appends side side' (raws ps)) whole.3 (side_got f t bytes answer out out' side side' ends is))

-- where the source tells its bytes: of `encode`
pub told_encoded : PlansCanBeCoded → (t : Settings) (answer : Ended) (held out out' side side' : Option (List ℕ))
    → IsAccepted t
    → IfSome held (λ bytes. IsEncoded t bytes answer out out' side side')
    → IfSome held (λ bytes. EndsStream answer → SideGetsShown (encoding t bytes) side side')
told_encoded plans t answer None out out' side side' accepted is = tt
told_encoded plans t answer (Some bytes) out out' side side' accepted is =
    side_shown plans own_index t bytes answer out out' side side' accepted is.0 (λ ends. (is.1 ends).shows)

-- of `rate`
pub told_rated : PlansCanBeCoded
    → (t : Settings) (budget : ℕ) (answer : Ended) (held out out' side side' : Option (List ℕ)) → IsAccepted t
    → IfSome held (λ bytes. IsRated t budget bytes answer out out' side side')
    → IfSome held (λ bytes. EndsStream answer → SideGetsShown (encoding_under (fit budget) t bytes) side side')
told_rated plans t budget answer None out out' side side' accepted is = tt
told_rated plans t budget answer (Some bytes) out out' side side' accepted is =
    side_shown plans (fit budget) t bytes answer out out' side side' accepted is.0 (λ ends. (is.1 ends).shows)

-- of `make`, whose pictures are held
pub made_shown : PlansCanBeCoded → (t : Settings) (count : ℕ) (held : List ℕ) → IsAccepted t
    → held ≡ generated_from t count 0 → encoded.Done ≡ (encoding t held).answer → (Unit {0} → IsRecovered t held)
    → DeliversShown (making t count)
made_shown plans t count held accepted is done recovered =
    subst (λ (bytes : List ℕ). DeliversShown (encoding t bytes)) is
    (delivers_shown plans own_index t held accepted (done_short t held done) (recovered tt).shows)
