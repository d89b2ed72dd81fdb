-- What a plan's sources become is read and rebuilt again: the encoder's list of references is the decoder's.
use Rattle.std.proofs.Common.{◌≡◌, ℕ, zero, suc, ℤ, pos, negsuc, ◌<◌, ◌^◌, if◌then◌else◌, Bool, true, false, List, [], ◌∷◌, ◌++◌, length, map, get_or, refl, ap, ◌∙◌, arith, Option, None, Some, Ok, sym, subst}
use Rattle.std.specs.Prelude.{drop, slice_index_or, nat_le, not, ◌==◌}
use Rattle.std.specs.List.{AllByRecursion, filter}
use Rattle.std.proofs.lemmas.Int.{ints}
use Rattle.std.proofs.lemmas.List.{length-map, get_or-map, get_or_default}
use Rattle.dirac_common.specs.declared.formats.Kind.{Kind}
use Rattle.dirac_common.specs.declared.formats.Kind.TheVariants.{Intra, Inter}
use Rattle.dirac_common.specs.declared.picture.Picture.{Picture}
use Rattle.dirac_types.specs.declared.settings.Settings.{Settings}
use Rattle.dirac_types.specs.Settings.{IsAccepted}
use Rattle.dirac_common.specs.Samples.{clip}
use Rattle.dirac_common.specs.Table.{Table}
use Rattle.dirac_sequence_header.specs.declared.sequence.Sequence.{Sequence}
use Rattle.dirac_sequence.specs.Written.{sequence_of}
use Rattle.dirac_header.specs.declared.header.PictureHeader.{PictureHeader}
use Rattle.dirac_common.specs.declared.formats.Component.{Component}
use Rattle.dirac_common.specs.declared.formats.Component.TheVariants as component
use Rattle.dirac_picture.specs.declared.coded.CodedMotion.{CodedMotion}
use Rattle.dirac_picture.specs.declared.coded.CodedPicture.{CodedPicture}
use Rattle.dirac_picture.specs.declared.coded.CodedResidual.{CodedResidual}
use Rattle.dirac_refs.specs.Delivery.{in_delivery_order}
use Rattle.dirac_refs.specs.References.{appended, committed, retire, without}
use Rattle.dirac_synthesis.specs.Residual.{clipped, with_prediction}
use Rattle.dirac_analysis.specs.Fits.{AreSamples}
use Rattle.dirac_content.specs.Content.{height_of, named, predicted_among, rebuilt, residual_among, samples_from, width_of}
use Rattle.dirac_content.specs.StreamState.{as_reference}
use Rattle.dirac_header.specs.Codes.{is_reference}
use Rattle.dirac_plan.specs.declared.planned.Planned.{Planned}
use Rattle.dirac_encode_laws.specs.Coded.{IsSourcePlane, IsSource}
use Rattle.dirac_encode_laws.specs.Coding.{IndexRule, Job, Made, blank, coded_under, coding_under, job_of, made_under, own_index, keyed_reconstructions, reconstructions_under, refs_after, shown_of, waiting_of}
use Rattle.dirac_encode_laws.specs.Laws.{AreMade, AreSourcesUnder, Begins, GivesIndices, IsMade, JobsAreRead, JobsAreReadUnder, SourcesShowReconstructions, SourcesShowReconstructionsUnder, StreamsShowTheirPictures}
use Rattle.dirac_motion.specs.Chosen.{at_index}
use Rattle.dirac_picture.specs.Grammar.{picture_read}
use Rattle.dirac_encode_laws.specs.Tables.{TablesAreChosen}
use Rattle.dirac_encode_laws.proofs.Indices.{accepted_at, own_gives, sequence_at, source_with, sources_with, sources_under}
use Rattle.dirac_encode_laws.specs.Stream.{picture_length}
use Rattle.dirac_plan.specs.Plan.{plan}
use Rattle.dirac_plan_laws.specs.Headers.{IsPlanned}
use Rattle.dirac_plan_laws.specs.Order.{as_waiting}
use Rattle.dirac_plan_laws.specs.Plans.{BeginsPlan, PlansCanBeCoded}
use Rattle.dirac_plan_laws.specs.References.{ReferencesAreFound, ArePlanned}

-- ---- what is rebuilt is a picture of these settings

clip_again : (v : ℤ) → clip (clip v) ≡ clip v
clip_again (pos n) = grind (arith, ints)
clip_again (negsuc n) = grind (arith, ints)

clipped_samples : (t : Table) → AreSamples (clipped t).values
clipped_samples t k d l =
    let inside : k < length t.values = omega (arith, l, length-map t.values clip) in
    rw (get_or_default (map clip t.values) k d (pos 0) l, get_or-map clip t.values k (pos 0) (pos 0) inside) (clip_again (get_or t.values k (pos 0)))

-- the size of a residual
left_size : (s : Sequence) (kind : Kind) (r : Option CodedResidual) (p : Component) → ((residual_among s kind p r).width ≡ width_of s p) × ((residual_among s kind p r).height ≡ height_of s p)
left_size s kind None p = (refl, refl)
left_size s kind (Some r) p = (refl, refl)

intra_rebuilt : (s : Sequence) (r : Option CodedResidual) (p : Component) → IsSourcePlane (width_of s p) (height_of s p) (clipped (residual_among s Intra p r))
intra_rebuilt s r p = let size = left_size s Intra r p in record { across = size.0; down = size.1; samples = clipped_samples (residual_among s Intra p r) }

inter_rebuilt : (s : Sequence) (r : Option CodedResidual) (predicted : List ℤ) (p : Component) → IsSourcePlane (width_of s p) (height_of s p) (clipped (with_prediction (residual_among s Inter p r) predicted))
inter_rebuilt s r predicted p =
    let size = left_size s Inter r p in
    record { across = size.0; down = size.1; samples = clipped_samples (with_prediction (residual_among s Inter p r) predicted) }

plane_rebuilt : (s : Sequence) (refs : List Picture) (head : PictureHeader) (m : Option CodedMotion) (r : Option CodedResidual) (p : Component) → IsSourcePlane (width_of s p) (height_of s p) (samples_from s refs head m r p)
plane_rebuilt s refs head None r p = intra_rebuilt s r p
plane_rebuilt s refs head (Some m) r p = inter_rebuilt s r (predicted_among s m (named refs head.ref1) (named refs head.ref2) p) p

pub rebuilt_source : (t : Settings) (refs : List Picture) (c : CodedPicture) → IsSource t (rebuilt (sequence_of t) refs c)
unfolding sequence_of
rebuilt_source t refs c =
    let s = sequence_of t in
    record {
      y = plane_rebuilt s refs c.header c.motion c.residual component.Y;
      u = plane_rebuilt s refs c.header c.motion c.residual component.U;
      v = plane_rebuilt s refs c.header c.motion c.residual component.V;
    }

-- ---- lists of pictures

-- one that is kept, or left out
filter_step : {X : Type 0} (P : X → Type 0) (keep : X → Bool) (x : X) (xs : List X) (b : Bool) → keep x ≡ b → P x → AllByRecursion P (filter keep xs) → AllByRecursion P (filter keep (x ∷ xs))
filter_step P keep x xs true e one rest = rw e (one, rest)
filter_step P keep x xs false e one rest = rw e rest

pub all_filtered : {X : Type 0} (P : X → Type 0) (keep : X → Bool) (xs : List X) → AllByRecursion P xs → AllByRecursion P (filter keep xs)
all_filtered P keep [] all = tt
all_filtered P keep (x ∷ xs) all = filter_step P keep x xs (keep x) refl all.0 (all_filtered P keep xs all.1)

all_more : {X : Type 0} (P : X → Type 0) (xs : List X) (x : X) → AllByRecursion P xs → P x → AllByRecursion P (xs ++ x ∷ [])
all_more P [] x all one = (one, tt)
all_more P (y ∷ xs) x all one = (all.0, all_more P xs x all.1 one)

all_but_first : {X : Type 0} (P : X → Type 0) (xs : List X) → AllByRecursion P xs → AllByRecursion P (drop 1 xs)
all_but_first P [] all = tt
all_but_first P (x ∷ xs) all = all.1

either : {X : Type 0} (P : X → Type 0) (b : Bool) (xs ys : List X) → AllByRecursion P xs → AllByRecursion P ys → AllByRecursion P (if b then xs else ys)
either P true xs ys all other = all
either P false xs ys all other = other

all_retired : (P : Picture → Type 0) (list : List Picture) (o : Option ℕ) → AllByRecursion P list → AllByRecursion P (retire list o)
all_retired P list None all = all
all_retired P list (Some n) all = all_filtered P (λ p. not (p.number == n)) list all

-- so is the list behind a picture
pub all_committed : (P : Picture → Type 0) (list : List Picture) (o : Option ℕ) (code : ℕ) (p : Picture) → AllByRecursion P list → P p → AllByRecursion P (committed list o (as_reference code p))
all_committed P list o code p all one = by (is_reference code)
  where
    rest : AllByRecursion P (retire list o)
    rest = all_retired P list o all

    others : AllByRecursion P (without p.number (retire list o))
    others = all_filtered P (λ q. not (q.number == p.number)) (retire list o) rest

    by : (b : Bool) → AllByRecursion P (appended (retire list o) (if b then Some p else None))
    by true =
        let old = without p.number (retire list o) in
        all_more P (if nat_le 8 (length old) then drop 1 old else old) p (either P (nat_le 8 (length old)) (drop 1 old) old (all_but_first P old others) others) one
    by false = rest

pub picture_at : (P : Picture → Type 0) (pictures : List Picture) (k : ℕ) → AllByRecursion P pictures → k < length pictures → P (slice_index_or pictures k blank)
picture_at P [] k all l = absurd (omega (arith, l))
picture_at P (p ∷ pictures) zero all l = all.0
picture_at P (p ∷ pictures) (suc k) all l = picture_at P pictures k all.1 (omega (arith, l))

-- ---- the recursion

-- what is shown under a rule
pub shown_source : (f : IndexRule) (t : Settings) (refs : List Picture) (j : Job) → IsSource t (made_under f t refs j).shown
shown_source f t refs j =
    let c = (made_under f t refs j).coded in
    subst (λ (s : Sequence). IsSource t (rebuilt s refs c)) (sym (sequence_at t (f t refs j))) (rebuilt_source t refs c)

-- a planned source is read as it was coded, whichever index the rule gives it
pub jobs_read_under : JobsAreRead → JobsAreReadUnder
jobs_read_under law f gives t refs j accepted listed source planned found short =
    let index = f t refs j in
    let m = made_under f t refs j in
    let read = law (at_index t index) refs j (accepted_at t index accepted (gives t refs j accepted)) (sources_with t index refs listed) (source_with t index j.source source) planned found short in
    record {
      fits = record { code = planned.code; short = short };
      found = found;
      read = subst (λ (s : Sequence). picture_read j.planned.code s refs m.payload ≡ Ok m.coded) (sequence_at t index) read;
      shows = ap (λ (s : Sequence). rebuilt s refs m.coded) (sequence_at t index);
    }

-- the pictures that become of planned ones have their numbers
pub are_planned : (f : IndexRule) (t : Settings) (pictures refs : List Picture) (qs : List Planned) → ArePlanned qs (map shown_of (coded_under f t refs (map (job_of pictures) qs)))
unfolding coded_under
are_planned f t pictures refs [] = refl
are_planned f t pictures refs (q ∷ qs) = ap (λ ns. q.number ∷ ns) (are_planned f t pictures (refs_after refs (made_under f t refs (job_of pictures q))) qs)

all_made : JobsAreReadUnder → (f : IndexRule) → GivesIndices f → (t : Settings) (pictures refs : List Picture) (qs : List Planned) → IsAccepted t → AllByRecursion (IsSource t) pictures → AllByRecursion (IsSource t) refs
    → AllByRecursion (λ (q : Planned). q.number < length pictures) qs → AllByRecursion IsPlanned qs
    → ReferencesAreFound refs qs (map shown_of (coded_under f t refs (map (job_of pictures) qs)))
    → AllByRecursion (λ m. picture_length m < 2 ^ 32) (coded_under f t refs (map (job_of pictures) qs))
    → AreMade t refs (coded_under f t refs (map (job_of pictures) qs))
unfolding coded_under
all_made law f gives t pictures refs [] accepted sources listed below codes found short = tt
all_made law f gives t pictures refs (q ∷ qs) accepted sources listed below codes found short =
    let j = job_of pictures q in
    let m = made_under f t refs j in
    let source : IsSource t j.source = picture_at (IsSource t) pictures q.number sources below.0 in
    let is : IsMade t refs m = law f gives t refs j accepted listed source codes.0 found.0 short.0 in
    let more = all_committed (IsSource t) refs q.retire q.code m.shown listed (shown_source f t refs j) in
    (is, all_made law f gives t pictures (refs_after refs m) qs accepted sources more below.1 codes.1 found.1 short.1)

begins : (f : IndexRule) (t : Settings) (pictures : List Picture) (qs : List Planned) → BeginsPlan qs → Begins (coded_under f t [] (map (job_of pictures) qs))
unfolding coded_under
begins f t pictures [] is = tt
begins f t pictures (q ∷ qs) is = (is.0, is.1)

pub pushed_shown : (ms : List Made) → keyed_reconstructions ms ≡ map as_waiting (map shown_of ms)
pushed_shown [] = refl
pushed_shown (m ∷ ms) = ap (λ ws. waiting_of m ∷ ws) (pushed_shown ms)

-- the list of what sources become, with nothing listed at first
pub sources_made : PlansCanBeCoded → JobsAreReadUnder → (f : IndexRule) → GivesIndices f → (t : Settings) (pictures : List Picture) → AreSourcesUnder f t pictures → AreMade t [] (coding_under f t pictures) × Begins (coding_under f t pictures)
sources_made plans law f gives t pictures is =
    let n = length pictures in
    let qs = plan n t in
    let is_plan = plans t n is.accepted (omega (arith, is.below_2_31)) in (
      all_made law f gives t pictures [] qs is.accepted is.each tt is_plan.below is_plan.each (is_plan.found (map shown_of (coding_under f t pictures)) (are_planned f t pictures [] qs)) is.short,
      begins f t pictures qs is_plan.begins,
    )

-- they leave by rising number
pub sources_leave : PlansCanBeCoded → (f : IndexRule) (t : Settings) (pictures : List Picture) → IsAccepted t → length pictures < 2 ^ 31 → in_delivery_order (keyed_reconstructions (coding_under f t pictures)) ≡ reconstructions_under f t pictures
sources_leave plans f t pictures accepted few =
    let n = length pictures in
    let ms = coding_under f t pictures in
    ap in_delivery_order (pushed_shown ms) ∙ (plans t n accepted (omega (arith, few))).order (map shown_of ms) (are_planned f t pictures [] (plan n t))

pub shown_under : StreamsShowTheirPictures → JobsAreRead → PlansCanBeCoded → SourcesShowReconstructionsUnder
shown_under shown reads plans f gives t pictures is =
    let all = sources_made plans (jobs_read_under reads) f gives t pictures is in
    let o = shown t (coding_under f t pictures) is.accepted all.0 all.1 in
    (o.0, o.1, o.2 ∙ sources_leave plans f t pictures is.accepted is.below_2_31, o.3)

-- with the settings' index
pub sources_shown : StreamsShowTheirPictures → (TablesAreChosen → JobsAreRead) → PlansCanBeCoded → TablesAreChosen → SourcesShowReconstructions
sources_shown shown reads plans tables t pictures is = shown_under shown (reads tables) plans own_index own_gives t pictures (sources_under t pictures is)
