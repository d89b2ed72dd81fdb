-- At index 0 nothing is lost: what decoders show for a source is the source, whether it is predicted or not.
use Rattle.std.proofs.Common.{◌==◌, ◌≡◌, ℕ, zero, suc, ℤ, ◌+◌, ◌*◌, ◌<◌, ◌≤◌, ◌+ℤ◌, ◌-ℤ◌, if◌then◌else◌, Bool, true, false, List, [], ◌∷◌, ◌++◌, length, map, take, Option, None, Some, refl, sym, ap, ap₂, ◌∙◌, arith, ne_eqb, eq-eqb, inl, inr}
use Rattle.std.specs.Prelude.{slice_get, slice_index_or, ◌&&◌}
use Rattle.std.specs.List.{AllByRecursion}
use Rattle.std.specs.Option.{option_to_list}
use Rattle.std.specs.Simd.Lanes.{zip2}
use Rattle.std.proofs.lemmas.Bool.{and_parts, cases_eq}
use Rattle.std.proofs.lemmas.Int.{ints}
use Rattle.std.proofs.lemmas.List.{take_more, take_all}
use Rattle.dirac_common.specs.declared.formats.Kind.TheVariants.{Intra, Inter}
use Rattle.dirac_common.specs.declared.picture.Picture.{Picture}
use Rattle.dirac_types.specs.declared.settings.Settings.{Settings}
use Rattle.dirac_types.specs.Settings.{IsAccepted}
use Rattle.dirac_common.specs.Table.{Table}
use Rattle.dirac_sequence_header.specs.declared.sequence.Sequence.{Sequence}
use Rattle.dirac_sequence.specs.Written.{sequence_of}
use Rattle.dirac_obmc.specs.Compensation.{predicted_at}
use Rattle.dirac_common.specs.declared.formats.Component.{Component}
use Rattle.dirac_common.specs.declared.formats.Component.TheVariants as component
use Rattle.dirac_picture.specs.declared.coded.CodedMotion.{CodedMotion}
use Rattle.dirac_picture.specs.declared.coded.CodedResidual.{CodedResidual}
use Rattle.dirac_picture.specs.Grammar.{are_listed, is_intra, is_listed}
use Rattle.dirac_refs.specs.References.{listed}
use Rattle.dirac_synthesis.specs.Residual.{clipped, residual, with_prediction}
use Rattle.dirac_analysis.specs.Analysis.{plane_bands}
use Rattle.dirac_analysis.proofs.Undone.{planes_kept}
use Rattle.dirac_content.specs.Content.{bands_of as bands_in, compensation, height_of, named, plane_of, predicted_among, rebuilt, residual_among, samples_from, width_of}
use Rattle.dirac_plan.specs.declared.planned.Planned.{Planned}
use Rattle.dirac_encode_laws.specs.Coded.{IsSource, are_zero_bands, quantised_bands_of, coded_of, coded_with, is_left_out, is_zero_residual, kind_of, residual_plane, plane_less_prediction, motion_of, residual_of, residual_unless_left_out, transform_of}
use Rattle.dirac_encode_laws.specs.Coding.{AreAtIndexZero, IndexRule, Job, blank, coded_under, job_of, jobs_of, made_under, own_index, refs_after, shown_of}
use Rattle.dirac_encode_laws.specs.Laws.{AreMade, AreNumbered, GivesIndices, IsWholePicture, JobsAreKept, SourcesAreKept, SourcesAreKeptUnder}
use Rattle.dirac_encode_laws.specs.Tables.{TablesAreChosen}
use Rattle.dirac_encode_laws.specs.Codable.{IsCodable}
use Rattle.dirac_encode_laws.proofs.Coding.{clipped_again, codable}
use Rattle.dirac_encode_laws.proofs.Lefts.{found_is}
use Rattle.dirac_encode_laws.proofs.Reading.{jobs_read, source_plane}
use Rattle.dirac_encode_laws.proofs.Indices.{accepted_at, own_gives, source_with, sources_under}
use Rattle.dirac_encode_laws.proofs.Sourcing.{jobs_read_under, picture_at, sources_made}
use Rattle.dirac_motion.specs.Chosen.{at_index}
use Rattle.dirac_synthesis.proofs.ZeroBands.{length-filled, zeros_stand}
use Rattle.dirac_plan.specs.Plan.{plan}
use Rattle.dirac_plan_laws.specs.Headers.{IsPlanned, header_of}
use Rattle.dirac_plan_laws.specs.Order.{by_number}
use Rattle.dirac_plan_laws.specs.Plans.{PlansCanBeCoded}

-- ---- a plane

-- what was taken away is added again
zip_again : (vs ps : List ℤ) → length vs ≤ length ps → zip2 (λ v other. v +ℤ other) (zip2 (λ v other. v -ℤ other) vs ps) ps ≡ vs
zip_again [] ps few = refl
zip_again (v ∷ vs) [] few = absurd (omega (arith, few))
zip_again (v ∷ vs) (p ∷ ps) few = ap₂ (λ (x : ℤ) (xs : List ℤ). x ∷ xs) (again v p) (zip_again vs ps (omega (arith, few)))
  where
    again : (v p : ℤ) → (v -ℤ p) +ℤ p ≡ v
    again v p = omega (arith, ints)

added_again : (t : Table) (predicted : List ℤ) → length t.values ≤ length predicted → with_prediction (plane_less_prediction t predicted) predicted ≡ t
added_again t predicted few = ap (λ (vs : List ℤ). record { width = t.width; height = t.height; values = vs }) (zip_again t.values predicted few)

length-zip : (vs ps : List ℤ) → length vs ≤ length ps → length (zip2 (λ v other. v -ℤ other) vs ps) ≡ length vs
length-zip [] ps few = refl
length-zip (v ∷ vs) [] few = absurd (omega (arith, few))
length-zip (v ∷ vs) (p ∷ ps) few = ap suc (length-zip vs ps (omega (arith, few)))

pub whole_plane : (p : Picture) (o : Component) → IsWholePicture p → length (plane_of p o).values ≡ (plane_of p o).width * (plane_of p o).height
whole_plane p component.Y is = is.y
whole_plane p component.U is = is.u
whole_plane p component.V is = is.v

bands_at_zero : (t : Settings) (plane : Table) (width height : ℕ) → IsCodable t → t.index ≡ 0 → plane.width ≡ width → plane.height ≡ height → length plane.values ≡ plane.width * plane.height
    → residual (transform_of t) Inter (quantised_bands_of t Inter plane) width height ≡ plane
bands_at_zero t plane width height codes none ew eh whole =
    ap₂ (λ (w h : ℕ). residual (transform_of t) Inter (quantised_bands_of t Inter plane) w h) (sym ew) (sym eh)
    ∙ ap (λ index. residual (transform_of t) Inter (plane_bands Inter (transform_of t) t.finer index plane) plane.width plane.height) none
    ∙ planes_kept Inter (transform_of t) t.finer plane codes.wavelet whole

intra_at_zero : (t : Settings) (plane : Table) (width height : ℕ) → IsCodable t → t.index ≡ 0 → plane.width ≡ width → plane.height ≡ height → length plane.values ≡ plane.width * plane.height
    → residual (transform_of t) Intra (quantised_bands_of t Intra plane) width height ≡ plane
intra_at_zero t plane width height codes none ew eh whole =
    ap₂ (λ (w h : ℕ). residual (transform_of t) Intra (quantised_bands_of t Intra plane) w h) (sym ew) (sym eh)
    ∙ ap (λ index. residual (transform_of t) Intra (plane_bands Intra (transform_of t) t.finer index plane) plane.width plane.height) none
    ∙ planes_kept Intra (transform_of t) t.finer plane codes.wavelet whole

zero_part : (r : CodedResidual) (o : Component) → is_zero_residual r ≡ true → are_zero_bands (bands_in r o) ≡ true
zero_part r component.Y e = (and_parts (are_zero_bands r.y) (are_zero_bands r.u) (and_parts (are_zero_bands r.y && are_zero_bands r.u) (are_zero_bands r.v) e).0).0
zero_part r component.U e = (and_parts (are_zero_bands r.y) (are_zero_bands r.u) (and_parts (are_zero_bands r.y && are_zero_bands r.u) (are_zero_bands r.v) e).0).1
zero_part r component.V e = (and_parts (are_zero_bands r.y && are_zero_bands r.u) (are_zero_bands r.v) e).1

-- a residual that is left out, being zero, is the same as one that is written
left_out_again : (s : Sequence) (r : CodedResidual) (o : Component) (b : Bool) → (b ≡ true → is_zero_residual r ≡ true)
    → residual_among s Inter o (if b then None else Some r) ≡ residual r.transform Inter (bands_in r o) (width_of s o) (height_of s o)
left_out_again s r o true e = sym (zeros_stand r.transform (bands_in r o) (width_of s o) (height_of s o) (zero_part r o (e refl)))
left_out_again s r o false e = refl

length-predicted : (s : Sequence) (m : CodedMotion) (first second : Option Picture) (o : Component) → (first ≡ None → ⊥) → length (predicted_among s m first second o) ≡ width_of s o * height_of s o
length-predicted s m None second o some = absurd (some refl)
length-predicted s m (Some first) second o some = length-filled (width_of s o) (height_of s o) (predicted_at (compensation s m first second o))

part_bands : (t : Settings) (refs : List Picture) (q : Planned) (m : Option CodedMotion) (p : Picture) (o : Component) → bands_in (residual_of t refs (header_of q) m p) o ≡ quantised_bands_of t (kind_of m) (residual_plane t refs (header_of q) m p o)
part_bands t refs q m p component.Y = refl
part_bands t refs q m p component.U = refl
part_bands t refs q m p component.V = refl

-- a plane of a source
plane_kept : (t : Settings) (refs : List Picture) (q : Planned) (p : Picture) (m : Option CodedMotion) (o : Component) → IsCodable t → IsSource t p → IsWholePicture p → (is_intra q.code ≡ false → named refs q.ref1 ≡ None → ⊥) → t.index ≡ 0
    → (m ≡ None → is_intra q.code ≡ true) → ((x : CodedMotion) → m ≡ Some x → is_intra q.code ≡ false)
    → samples_from (sequence_of t) refs (header_of q) m (residual_unless_left_out t m (residual_of t refs (header_of q) m p)) o ≡ plane_of p o
plane_kept t refs q p None o codes source whole found none stays moves =
    let s = sequence_of t in
    let plane = source_plane t p o source in
    let r = residual_of t refs (header_of q) None p in
    ap clipped
    (ap (λ bands. residual (transform_of t) Intra bands (width_of s o) (height_of s o)) (part_bands t refs q None p o)
    ∙ intra_at_zero t (plane_of p o) (width_of s o) (height_of s o) codes none plane.across plane.down (whole_plane p o whole))
    ∙ clipped_again (plane_of p o) plane.samples
plane_kept t refs q p (Some m) o codes source whole found none stays moves =
    let s = sequence_of t in
    let plane = source_plane t p o source in
    let ps = predicted_among s m (named refs q.ref1) (named refs q.ref2) o in
    let left = plane_less_prediction (plane_of p o) ps in
    let r = residual_of t refs (header_of q) (Some m) p in
    let len : length ps ≡ width_of s o * height_of s o = length-predicted s m (named refs q.ref1) (named refs q.ref2) o (found (moves m refl)) in
    let count : length (plane_of p o).values ≡ width_of s o * height_of s o = whole_plane p o whole ∙ ap₂ (λ (w h : ℕ). w * h) plane.across plane.down in
    let few : length (plane_of p o).values ≤ length ps = omega (arith, len, count) in
    let size : length left.values ≡ left.width * left.height = length-zip (plane_of p o).values ps few ∙ whole_plane p o whole in
    let again : residual_among s Inter o (residual_unless_left_out t (Some m) r) ≡ left =
    left_out_again s r o (is_left_out t r) (λ e. (and_parts (t.alike == 0) (is_zero_residual r) e).1)
    ∙ ap (λ bands. residual (transform_of t) Inter bands (width_of s o) (height_of s o)) (part_bands t refs q (Some m) p o)
    ∙ bands_at_zero t left (width_of s o) (height_of s o) codes none plane.across plane.down size in
    ap (λ x. clipped (with_prediction x ps)) again ∙ ap clipped (added_again (plane_of p o) ps few) ∙ clipped_again (plane_of p o) plane.samples

motion_is : (t : Settings) (refs : List Picture) (q : Planned) (p : Picture) (b : Bool) (x : CodedMotion) → is_intra q.code ≡ b
    → let m : Option CodedMotion = if b then None else Some x in (m ≡ None → is_intra q.code ≡ true) × ((y : CodedMotion) → m ≡ Some y → is_intra q.code ≡ false)
motion_is t refs q p true x e = ((λ d. e), (λ y d. absurd cc))
motion_is t refs q p false x e = ((λ d. absurd cc), (λ y d. e))

first_found : (refs : List Picture) (q : Planned) → IsPlanned q → are_listed refs (header_of q) ≡ true → is_intra q.code ≡ false → named refs q.ref1 ≡ None → ⊥
first_found refs q is found inter =
    found_is refs q.ref1 (is.references.first ∙ is.predicted inter) (and_parts (is_listed refs q.ref1) (is_listed refs q.ref2) found).0

parts_same : (n n' : ℕ) (a a' b b' c c' : Table) → n ≡ n' → a ≡ a' → b ≡ b' → c ≡ c'
    → let p : Picture = record { number = n; y = a; u = b; v = c } in let p' : Picture = record { number = n'; y = a'; u = b'; v = c' } in p ≡ p'
parts_same n n' a a' b b' c c' e f g h = rw (e, f, g, h) refl

-- a source is shown again
pub kept_with : (t : Settings) (refs : List Picture) (q : Planned) (p : Picture) (m : Option CodedMotion) → IsAccepted t → IsSource t p → IsWholePicture p → IsPlanned q → are_listed refs (header_of q) ≡ true
    → (m ≡ None → is_intra q.code ≡ true) → ((x : CodedMotion) → m ≡ Some x → is_intra q.code ≡ false) → p.number ≡ q.number → t.index ≡ 0 → rebuilt (sequence_of t) refs (coded_with t refs q p m) ≡ p
kept_with t refs q p m accepted source whole planned found stays moves number none =
    let codes = codable t accepted in
    let kept : (o : Component) → samples_from (sequence_of t) refs (header_of q) m (residual_unless_left_out t m (residual_of t refs (header_of q) m p)) o ≡ plane_of p o =
    λ o. plane_kept t refs q p m o codes source whole (first_found refs q planned found) none stays moves in
    parts_same q.number p.number _ p.y _ p.u _ p.v (sym number) (kept component.Y) (kept component.U) (kept component.V)

pub source_kept : (t : Settings) (refs : List Picture) (q : Planned) (p : Picture) → IsAccepted t → IsSource t p → IsWholePicture p → IsPlanned q → are_listed refs (header_of q) ≡ true
    → p.number ≡ q.number → t.index ≡ 0 → rebuilt (sequence_of t) refs (coded_of t refs q p) ≡ p
source_kept t refs q p accepted source whole planned found number none =
    let known = motion_is t refs q p (is_intra q.code) _ refl in
    kept_with t refs q p (motion_of t refs q p) accepted source whole planned found known.0 known.1 number none

-- ---- the pictures by number

pub pick : (p : Picture) (list : List Picture) (n : ℕ) (x : Option Picture) → (p.number ≡ n → Some p ≡ x) → ((p.number ≡ n → ⊥) → listed list n ≡ x) → listed (p ∷ list) n ≡ x
pick p list n x same other = elim (cases_eq p.number n) [
  | inl e ↦ rw (eq-eqb p.number n e) (same e)
  | inr not ↦ rw (ne_eqb p.number n not) (other not)
]

abbrev pub source_at : List Picture → ℕ → Picture
source_at pictures n = slice_index_or pictures n blank

abbrev source_of : List Picture → Planned → Picture
source_of pictures q = source_at pictures q.number

-- a number that is planned is that of its source
number_listed : (pictures : List Picture) (qs : List Planned) (n i : ℕ) (q : Planned) → slice_get qs i ≡ Some q → q.number ≡ n → AllByRecursion (λ (r : Planned). (source_of pictures r).number ≡ r.number) qs
    → listed (map (source_of pictures) qs) n ≡ Some (source_at pictures n)
number_listed pictures [] n zero q there e all = absurd cc
number_listed pictures [] n (suc i) q there e all = absurd cc
number_listed pictures (r ∷ qs) n zero q there e all =
    let same : r ≡ q = cc in
    let is : r.number ≡ n = ap (λ (x : Planned). x.number) same ∙ e in
    pick (source_of pictures r) (map (source_of pictures) qs) n (Some (source_at pictures n)) (λ x. ap (λ k. Some (source_at pictures k)) is) (λ not. absurd (not (all.0 ∙ is)))
number_listed pictures (r ∷ qs) n (suc i) q there e all =
    pick (source_of pictures r) (map (source_of pictures) qs) n (Some (source_at pictures n)) (λ x. ap (λ k. Some (source_at pictures k)) (sym all.0 ∙ x)) (λ not. number_listed pictures qs n i q there e all.1)

pub by_take : (pictures ps : List Picture) (n : ℕ) → n ≤ length pictures → ((k : ℕ) → k < n → listed ps k ≡ Some (source_at pictures k)) → by_number n ps ≡ take n pictures
by_take pictures ps zero few each = refl
by_take pictures ps (suc n) few each =
    let next : n + 1 ≡ suc n = omega arith in
    ap₂ (λ (xs : List Picture) (o : Option Picture). xs ++ option_to_list o) (by_take pictures ps n (omega (arith, few)) (λ k l. each k (omega (arith, l)))) (each n (omega arith))
    ∙ sym (take_more pictures n blank (omega (arith, few))) ∙ ap (λ k. take k pictures) next

pub numbered_at : (pictures : List Picture) (n k : ℕ) → AreNumbered n pictures → k < length pictures → (source_at pictures k).number ≡ n + k
numbered_at [] n k all l = absurd (omega (arith, l))
numbered_at (p ∷ pictures) n zero all l = omega (arith, all.0)
numbered_at (p ∷ pictures) n (suc k) all l = omega (arith, numbered_at pictures (n + 1) k all.1 (omega (arith, l)))

each_numbered : (pictures : List Picture) (qs : List Planned) → AreNumbered 0 pictures → AllByRecursion (λ (q : Planned). q.number < length pictures) qs → AllByRecursion (λ (q : Planned). (source_of pictures q).number ≡ q.number) qs
each_numbered pictures [] all below = tt
each_numbered pictures (q ∷ qs) all below = (omega (arith, numbered_at pictures 0 q.number all below.0), each_numbered pictures qs all below.1)

kept_from : (f : IndexRule) → GivesIndices f → (t : Settings) (pictures refs : List Picture) (qs : List Planned) → IsAccepted t → AllByRecursion (IsSource t) pictures → AllByRecursion IsWholePicture pictures → AllByRecursion (λ (q : Planned). q.number < length pictures) qs
    → AllByRecursion IsPlanned qs → AllByRecursion (λ (q : Planned). (source_of pictures q).number ≡ q.number) qs → AreMade t refs (coded_under f t refs (map (job_of pictures) qs)) → AreAtIndexZero f t refs (map (job_of pictures) qs)
    → map shown_of (coded_under f t refs (map (job_of pictures) qs)) ≡ map (source_of pictures) qs
unfolding coded_under AreAtIndexZero
kept_from f gives t pictures refs [] accepted sources whole below planned numbers all none = refl
kept_from f gives t pictures refs (q ∷ qs) accepted sources whole below planned numbers all none =
    let j = job_of pictures q in
    let m = made_under f t refs j in
    let index = f t refs j in
    let source : IsSource t (source_of pictures q) = picture_at (IsSource t) pictures q.number sources below.0 in
    let one = source_kept (at_index t index) refs q (source_of pictures q) (accepted_at t index accepted (gives t refs j accepted)) (source_with t index (source_of pictures q) source) (picture_at IsWholePicture pictures q.number whole below.0) planned.0 all.0.found numbers.0 none.0 in
    ap₂ (λ (x : Picture) (xs : List Picture). x ∷ xs) one (kept_from f gives t pictures (refs_after refs m) qs accepted sources whole below.1 planned.1 numbers.1 all.1 none.1)

pub jobs_kept : JobsAreKept
jobs_kept t refs j accepted source whole planned found number none = source_kept t refs j.planned j.source accepted source whole planned found number none

pub kept_under : PlansCanBeCoded → TablesAreChosen → SourcesAreKeptUnder
kept_under plans tables f gives t pictures is numbered whole none =
    let n = length pictures in
    let qs = plan n t in
    let law = plans t n is.accepted (omega (arith, is.below_2_31)) in
    let all = sources_made plans (jobs_read_under (jobs_read tables)) f gives t pictures is in
    let numbers = each_numbered pictures qs numbered law.below in
    ap (by_number n) (kept_from f gives t pictures [] qs is.accepted is.each whole law.below law.each numbers all.0 none)
    ∙ by_take pictures (map (source_of pictures) qs) n (omega arith) (λ k l. let found = law.all k l in number_listed pictures qs k found.0 found.1 found.2 found.3 numbers)
    ∙ take_all n pictures (omega arith)

-- where the settings' index is 0 each source has it
pub own_at_zero : (t : Settings) (refs : List Picture) (jobs : List Job) → t.index ≡ 0 → AreAtIndexZero own_index t refs jobs
unfolding AreAtIndexZero
own_at_zero t refs [] none = tt
own_at_zero t refs (j ∷ jobs) none = (none, own_at_zero t (refs_after refs (made_under own_index t refs j)) jobs none)

-- with the settings' index
pub sources_kept : PlansCanBeCoded → TablesAreChosen → SourcesAreKept
sources_kept plans tables t pictures is numbered whole none = kept_under plans tables own_index own_gives t pictures (sources_under t pictures is) numbered whole (own_at_zero t [] (jobs_of t pictures) none)
