-- What an encoding of raw pictures writes that stops before a picture.
use Rattle.std.proofs.Common.{◌≡◌, ℕ, zero, suc, pos, ◌+◌, ◌<◌, ◌≤◌, ◌^◌, Bool, true, false, if◌then◌else◌, min, List, [], ◌∷◌, length, map, take, drop, get_or, Option, refl, sym, subst, arith}
use Rattle.std.specs.List.{AllByRecursion}
use Rattle.std.proofs.lemmas.Bool.{leb-true}
use Rattle.std.proofs.lemmas.List.{length-map, get_or-map, get_or_default}
use Rattle.dirac_common.specs.Samples.{clip}
use Rattle.dirac_common.specs.declared.picture.Picture.{Picture}
use Rattle.dirac_types.specs.declared.settings.Settings.{Settings}
use Rattle.dirac_types.specs.Settings.{IsAccepted}
use Rattle.dirac_units.specs.Writing.{IsReadAsWritten}
use Rattle.dirac_sequence.specs.Written.{sequence_of}
use Rattle.dirac_analysis.specs.Fits.{AreSamples}
use Rattle.dirac_plan.specs.Plan.{plan}
use Rattle.dirac_plan.specs.declared.planned.Planned.{Planned}
use Rattle.dirac_plan_laws.specs.Headers.{IsPlanned}
use Rattle.dirac_plan_laws.specs.Plans.{BeginsPlan, PlansCanBeCoded}
use Rattle.dirac_plan_laws.specs.References.{ReferencesAreFound}
use Rattle.dirac_sources.specs.Sources.{chroma_bytes, luma_bytes, picture_from, pictures_in, raw_length, sample_of, sources, whole_pictures}
use Rattle.dirac_sources.proofs.RawBytes.{below_drop, below_take}
use Rattle.dirac_encode_laws.specs.Coded.{IsSource}
use Rattle.dirac_encode_laws.specs.Coding.{IndexRule, Made, coded_under, coding_under, job_of, made_under, refs_after, shown_of}
use Rattle.dirac_encode_laws.specs.Encoding.{before_long, encoding_by, encoding_under, ending, is_short}
use Rattle.dirac_encode_laws.specs.Laws.{AreMade, Begins, GivesIndices, IsMade, JobsAreReadUnder}
use Rattle.dirac_encode_laws.specs.Stream.{picture_length}
use Rattle.dirac_encode_laws.proofs.Accepted.{most_bytes, most_pictures}
use Rattle.dirac_encode_laws.proofs.Sources.{length-pictures_in}
use Rattle.dirac_encode_laws.proofs.Sourcing.{all_committed, are_planned, picture_at, shown_source}
use Rattle.dirac_stopped_laws.specs.Stopped.{ShowsAllBefore, StoppedEncodingsShowTheirPictures}
use Rattle.dirac_stopped_laws.proofs.Showing.{stopped_shown}

-- ---- raw pictures

abbrev AreBytes : List ℕ → Type 0
AreBytes xs = AllByRecursion (λ b. b < 2 ^ 8) xs

sample_again : (b : ℕ) → b < 2 ^ 8 → clip (sample_of b) ≡ sample_of b
sample_again b small = grind (arith, small)

samples_at : (xs : List ℕ) (k : ℕ) → AreBytes xs → k < length xs → clip (sample_of (get_or xs k 0)) ≡ sample_of (get_or xs k 0)
samples_at [] k all l = absurd (omega (arith, l))
samples_at (x ∷ xs) zero all l = sample_again x all.0
samples_at (x ∷ xs) (suc k) all l = samples_at xs k all.1 (omega (arith, l))

samples_in : (xs : List ℕ) → AreBytes xs → AreSamples (map sample_of xs)
samples_in xs all k d l =
    let inside : k < length xs = omega (arith, l, length-map xs sample_of) in
    rw (get_or_default (map sample_of xs) k d (pos 0) l, get_or-map sample_of xs k 0 (pos 0) inside) (samples_at xs k all inside)

source_in : (t : Settings) (number : ℕ) (bytes : List ℕ) → AreBytes bytes → IsSource t (picture_from t number bytes)
source_in t number bytes all =
    let s = sequence_of t in
    let a = luma_bytes t in
    let b = chroma_bytes t in
    record {
      y = record { across = refl; down = refl; samples = samples_in (take a bytes) (below_take a bytes all) };
      u = record { across = refl; down = refl; samples = samples_in (take b (drop a bytes)) (below_take b (drop a bytes) (below_drop a bytes all)) };
      v = record { across = refl; down = refl; samples = samples_in (drop (a + b) bytes) (below_drop (a + b) bytes all) };
    }

sources_in : (t : Settings) (count number : ℕ) (bytes : List ℕ) → AreBytes bytes → AllByRecursion (IsSource t) (pictures_in t count number bytes)
unfolding pictures_in
sources_in t zero number bytes all = tt
sources_in t (suc count) number bytes all =
    let r = raw_length t in
    (source_in t number (take r bytes) (below_take r bytes all), sources_in t count (number + 1) (drop r bytes) (below_drop r bytes all))

-- ---- the pictures before the first whose unit is too long

short_enough : (t : Settings) (m : Made) → IsAccepted t → is_short t m ≡ true → picture_length m < 2 ^ 32
short_enough t m accepted short =
    let few : picture_length m ≤ t.unit_bytes = leb-true (picture_length m) t.unit_bytes short in
    omega (arith, few, most_bytes t accepted)

made_if : (t : Settings) (refs : List Picture) (m : Made) (ms : List Made) (b : Bool) → is_short t m ≡ b → (is_short t m ≡ true → IsMade t refs m) → AreMade t (refs_after refs m) ms → AreMade t refs (if b then m ∷ ms else [])
made_if t refs m ms true e is more = (is e, more)
made_if t refs m ms false e is more = tt

all_made : JobsAreReadUnder → (f : IndexRule) → GivesIndices f → (t : Settings) (pictures refs : List Picture) (qs : List Planned) → IsAccepted t → AllByRecursion (IsSource t) pictures → AllByRecursion (IsSource t) refs
    → AllByRecursion (λ (q : Planned). q.number < length pictures) qs → AllByRecursion IsPlanned qs
    → ReferencesAreFound refs qs (map shown_of (coded_under f t refs (map (job_of pictures) qs)))
    → AreMade t refs (before_long t (coded_under f t refs (map (job_of pictures) qs)))
unfolding coded_under
all_made law f gives t pictures refs [] accepted sourced listed below codes found = tt
all_made law f gives t pictures refs (q ∷ qs) accepted sourced listed below codes found =
    let j = job_of pictures q in
    let m = made_under f t refs j in
    let source : IsSource t j.source = picture_at (IsSource t) pictures q.number sourced below.0 in
    let more = all_committed (IsSource t) refs q.retire q.code m.shown listed (shown_source f t refs j) in
    made_if t refs m (before_long t (coded_under f t (refs_after refs m) (map (job_of pictures) qs))) (is_short t m) refl
    (λ short. law f gives t refs j accepted listed source codes.0 found.0 (short_enough t m accepted short))
    (all_made law f gives t pictures (refs_after refs m) qs accepted sourced more below.1 codes.1 found.1)

begins_if : (m : Made) (ms : List Made) (b : Bool) → Begins (m ∷ ms) → Begins (if b then m ∷ ms else [])
begins_if m ms true is = is
begins_if m ms false is = tt

begins : (f : IndexRule) (t : Settings) (pictures : List Picture) (qs : List Planned) → BeginsPlan qs → Begins (before_long t (coded_under f t [] (map (job_of pictures) qs)))
unfolding coded_under
begins f t pictures [] is = tt
begins f t pictures (q ∷ qs) is =
    let m = made_under f t [] (job_of pictures q) in
    begins_if m (before_long t (coded_under f t (refs_after [] m) (map (job_of pictures) qs))) (is_short t m) (is.0, is.1)

-- ---- the stream

few : (t : Settings) (bytes : List ℕ) → IsAccepted t → length (sources t bytes) ≤ 2 ^ 31
few t bytes accepted = omega (arith, length-pictures_in t (min (whole_pictures t bytes) t.pictures) 0 bytes, most_pictures t accepted)

pub encodings_shown : IsReadAsWritten → JobsAreReadUnder → PlansCanBeCoded → StoppedEncodingsShowTheirPictures
unfolding encoding_under
encodings_shown written law plans f gives t bytes m accepted all long =
    let pictures = sources t bytes in
    let coded = coding_under f t pictures in
    let qs = plan (length pictures) t in
    let is_plan = plans t (length pictures) accepted (few t bytes accepted) in
    let sourced = sources_in t (min (whole_pictures t bytes) t.pictures) 0 bytes all in
    let found = is_plan.found (map shown_of coded) (are_planned f t pictures [] qs) in
    let made = all_made law f gives t pictures [] qs accepted sourced tt is_plan.below is_plan.each found in
    subst (λ (o : Option Made). ShowsAllBefore t (before_long t coded) m (encoding_by t (ending t bytes) coded o).stream) (sym long)
    (stopped_shown written t (before_long t coded) m accepted made (begins f t pictures qs is_plan.begins))
