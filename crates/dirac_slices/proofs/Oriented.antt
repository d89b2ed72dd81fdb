-- The planes of a picture from the rows of their orientations.
use Rattle.std.proofs.Common.{◌≡◌, ℕ, zero, suc, ◌+◌, ◌*◌, ◌/◌, ◌%◌, ◌<◌, List, [], ◌∷◌, ◌++◌, length, drop, Option, None, Some, Result, Ok, Err, refl, ap, sym, subst, inl, inr, ◌∙◌, arith}
use Rattle.std.specs.Prelude.{IfOk, IfSome, slice_index_or}
use Rattle.dirac_sequence_header.specs.declared.sequence.Sequence.{Sequence}
use Rattle.dirac_sequence_header.specs.Sizes.{chroma_height, chroma_width, picture_height, plane_height, plane_width}
use Rattle.dirac_common.specs.Chain.{◌>>=◌ as ◌>>◌}
use Rattle.dirac_common.specs.declared.faults.Refusal.{Refusal}
use Rattle.dirac_common.specs.declared.formats.Component.{Component}
use Rattle.dirac_common.specs.declared.formats.Component.TheVariants as component
use Rattle.dirac_bits.specs.Cursor.{Cursor}
use Rattle.dirac_bits.specs.Syntax.{Syntax, read, ◌>>=◌}
use Rattle.dirac_bits.specs.Then.{read_then}
use Rattle.dirac_parameters.specs.declared.transform.Transform.{Transform}
use Rattle.dirac_coeffs.specs.declared.layout.CodedBand.{CodedBand}
use Rattle.dirac_coeffs.specs.Sites.{Found}
use Rattle.dirac_picture.specs.declared.chain.PlaneSize.{PlaneSize}
use Rattle.dirac_picture.specs.declared.coded.CodedResidual.{CodedResidual}
use Rattle.dirac_picture.specs.declared.sites.FoundPlanes.{FoundPlanes}
use Rattle.dirac_picture.specs.Grammar.{subbands_of_plane, planes}
use Rattle.dirac_picture.specs.Bands.{band_count}
use Rattle.dirac_picture.specs.Chains as chains
use Rattle.dirac_picture.specs.Chains.{sites_among, AreFound, AreWhole, AreWholePlanes, IsBandRefused, IsMissing, IsWholeChain, ReadsPlane}
use Rattle.dirac_picture.specs.Fits.{AreBandsOf, IsPlaneSize, IsResidual, IsTransform}
use Rattle.dirac_picture.proofs.Chained.{planes_are_read_by_chains}
use Rattle.dirac_rows.specs.Answers.{AnswerRows}
use Rattle.dirac_slices.specs.Bands.{residual_of_planes, AreLawfulPlanes, AreOrientations, ArePlaneSizes, AreReadAs, AreRefused, IsOneRefused, IsOrientation, IsOrientationAt, IsPlaneRefused}
use Rattle.dirac_slices.specs.declared.planes.ThreePlanes.{ThreePlanes}
use Rattle.dirac_slices.specs.Places.{component_at}

get_drop : {X : Type 0} (n : ℕ) (xs : List X) (k : ℕ) (d : X) → slice_index_or (drop n xs) k d ≡ slice_index_or xs (n + k) d
get_drop zero xs k d = ap (λ i. slice_index_or xs i d) (let e : k ≡ 0 + k = omega arith in e)
get_drop (suc n) [] k d = refl
get_drop (suc n) (x ∷ xs) k d =
    get_drop n xs k d ∙ ap (λ i. slice_index_or (x ∷ xs) i d) (let e : suc (n + k) ≡ suc n + k = omega arith in e)

pub drop_twice : {X : Type 0} (n m : ℕ) (xs : List X) → drop m (drop n xs) ≡ drop (n + m) xs
drop_twice zero m xs = ap (λ i. drop i xs) (let e : m ≡ 0 + m = omega arith in e)
drop_twice (suc n) zero [] = ap (λ i. drop i []) (let e : suc n ≡ suc n + 0 = omega arith in e)
drop_twice (suc n) (suc m) [] = ap (λ i. drop i []) (let e : suc (n + suc m) ≡ suc n + suc m = omega arith in e)
drop_twice (suc n) m (x ∷ xs) = drop_twice n m xs ∙ ap (λ i. drop i (x ∷ xs)) (let e : suc (n + m) ≡ suc n + m = omega arith in e)

-- four rows are taken one after another
four_taken : {X : Type 0} (rows r1 r2 r3 r4 : List X) (a b c e : X) → rows ≡ a ∷ r1 → r1 ≡ b ∷ r2 → r2 ≡ c ∷ r3 → r3 ≡ e ∷ r4 → rows ≡ a ∷ b ∷ c ∷ e ∷ r4
four_taken rows r1 r2 r3 r4 a b c e p q r s =
    p ∙ ap (λ l. a ∷ l) q ∙ ap (λ l. a ∷ b ∷ l) r ∙ ap (λ l. a ∷ b ∷ c ∷ l) s

pub rest_of_four : {X : Type 0} (rows r1 r2 r3 r4 : List X) (a b c e : X) → rows ≡ a ∷ r1 → r1 ≡ b ∷ r2 → r2 ≡ c ∷ r3 → r3 ≡ e ∷ r4 → r4 ≡ drop 4 rows
rest_of_four rows r1 r2 r3 r4 a b c e p q r s = sym (ap (drop 4) (four_taken rows r1 r2 r3 r4 a b c e p q r s))

-- the rows of each plane stand one behind another
pub plane_rows : (s : Sequence) (t : Transform) (found : FoundPlanes) (xs : List (Option (List CodedBand)))
    → AnswerRows (IsOrientationAt s t found) 12 xs → (p : ℕ) → p < 3
    → AreOrientations t (plane_width s (component_at p)) (plane_height s (component_at p)) (sites_among found (component_at p)) (drop (4 * p) xs)
plane_rows s t found xs answers p few k d l =
    let plane : (4 * p + k) / 4 ≡ p = omega (arith, l) in
    let place : (4 * p + k) % 4 ≡ k = omega (arith, l) in
    let of : Option (List CodedBand) = slice_index_or xs (4 * p + k) d in
    let got : IsOrientationAt s t found (4 * p + k) of = answers.1 (4 * p + k) d (omega (arith, l, few)) in
    let placed : IsOrientation t (plane_width s (component_at ((4 * p + k) / 4))) (plane_height s (component_at ((4 * p + k) / 4))) (sites_among found (component_at ((4 * p + k) / 4))) k of =
    subst (λ n. IsOrientation t (plane_width s (component_at ((4 * p + k) / 4))) (plane_height s (component_at ((4 * p + k) / 4))) (sites_among found (component_at ((4 * p + k) / 4))) n of) place got in
    let ours : IsOrientation t (plane_width s (component_at p)) (plane_height s (component_at p)) (sites_among found (component_at p)) k of =
    subst (λ n. IsOrientation t (plane_width s (component_at n)) (plane_height s (component_at n)) (sites_among found (component_at n)) k of) plane placed in
    subst (λ (o : Option (List CodedBand)). IsOrientation t (plane_width s (component_at p)) (plane_height s (component_at p)) (sites_among found (component_at p)) k o) (sym (get_drop (4 * p) xs k d)) ours

-- the size of a plane
abbrev pub size_in : Sequence → Component → PlaneSize
size_in s c = record { width = plane_width s c; height = plane_height s c }

pub size_at : (s : Sequence) (c : Component) → ArePlaneSizes s → IsPlaneSize (plane_width s c) (plane_height s c)
size_at s component.Y are = are.luma
size_at s component.U are = are.chroma
size_at s component.V are = are.chroma

pub size_of_plane : (s : Sequence) (c : Component) (size : PlaneSize) → size ≡ size_in s c → ArePlaneSizes s → IsPlaneSize size.width size.height
size_of_plane s c size e are = subst (λ (z : PlaneSize). IsPlaneSize z.width z.height) (sym e) (size_at s c are)

-- and its blocks
pub whole_plane : (t : Transform) (found : FoundPlanes) (c : Component) (sites : List (Option Found)) → sites ≡ sites_among found c → AreWholePlanes t found → AreWhole t sites
whole_plane t found c sites e are = subst (λ (q : List (Option Found)). AreWhole t q) (sym e) (are c)

-- what is read of an orientation
oriented : {E : Type 0} (t : Transform) (width height : ℕ) (sites : List (Option Found)) (k : ℕ) (o : Result (Option (List CodedBand)) E)
    → IfOk o (λ x. IfSome x (IsWholeChain t width height sites k)) → (o ≡ Ok None → IsBandRefused t width height sites k) → IfOk o (IsOrientation t width height sites k)
oriented t width height sites k (Ok None) whole none = none refl
oriented t width height sites k (Ok (Some chain)) whole none = whole
oriented t width height sites k (Err e) whole none = tt

-- and of that of a row, by other names
pub row_read : {E : Type 0} (s : Sequence) (t : Transform) (found : FoundPlanes) (r : ℕ) (c : Component) (size : PlaneSize) (sites : List (Option Found)) (o : Result (Option (List CodedBand)) E)
    → c ≡ component_at (r / 4) → size ≡ size_in s c → sites ≡ sites_among found c
    → IfOk o (λ x. IfSome x (IsWholeChain t size.width size.height sites (r % 4))) → (o ≡ Ok None → IsBandRefused t size.width size.height sites (r % 4))
    → IfOk o (IsOrientationAt s t found r)
row_read s t found r c size sites o of e f whole none =
    subst (λ (d : Component). IfOk o (IsOrientation t (plane_width s d) (plane_height s d) (sites_among found d) (r % 4))) of
    (subst (λ (z : PlaneSize). IfOk o (IsOrientation t z.width z.height (sites_among found c) (r % 4))) e
    (subst (λ (q : List (Option Found)). IfOk o (IsOrientation t size.width size.height q (r % 4))) f (oriented t size.width size.height sites (r % 4) o whole none)))

-- the first four rows by their places
pub four : (P : ℕ → Option (List CodedBand) → Type 0) (rows r1 r2 r3 r4 : List (Option (List CodedBand))) (a b c e : Option (List CodedBand))
    → ((k : ℕ) (d : Option (List CodedBand)) → k < 4 → P k (slice_index_or rows k d)) → rows ≡ a ∷ r1 → r1 ≡ b ∷ r2 → r2 ≡ c ∷ r3 → r3 ≡ e ∷ r4
    → P 0 a × P 1 b × P 2 c × P 3 e
four P rows r1 r2 r3 r4 a b c e each p q r s =
    let all : rows ≡ a ∷ b ∷ c ∷ e ∷ r4 = four_taken rows r1 r2 r3 r4 a b c e p q r s in (
      subst (P 0) (ap (λ l. slice_index_or l 0 a) all) (each 0 a (omega arith)),
      subst (P 1) (ap (λ l. slice_index_or l 1 a) all) (each 1 a (omega arith)),
      subst (P 2) (ap (λ l. slice_index_or l 2 a) all) (each 2 a (omega arith)),
      subst (P 3) (ap (λ l. slice_index_or l 3 a) all) (each 3 a (omega arith)),
    )

-- an orientation that isn't refused is whole
whole_of : (t : Transform) (width height : ℕ) (sites : List (Option Found)) (k : ℕ) (o : Option (List CodedBand)) (chain : List CodedBand)
    → IsOrientation t width height sites k o → o ≡ Some chain → IsWholeChain t width height sites k chain
whole_of t width height sites k o chain is e = subst (IsOrientation t width height sites k) e is

pub refused_of : (t : Transform) (width height : ℕ) (sites : List (Option Found)) (k : ℕ) (o : Option (List CodedBand))
    → IsOrientation t width height sites k o → o ≡ None → k < 4 → IsPlaneRefused t width height sites
refused_of t width height sites k o is e l =
    record { orientation = k; of_four = l; band = subst (IsOrientation t width height sites k) e is }

-- HL, LH and HH have as many bands
pub as_many : (t : Transform) (width height : ℕ) (sites : List (Option Found)) (k : ℕ) (a b : Option (List CodedBand)) (first second : List CodedBand)
    → IsOrientation t width height sites 1 a → IsOrientation t width height sites (suc k) b → a ≡ Some first → b ≡ Some second → length second ≡ length first
as_many t width height sites k a b first second isa isb ea eb =
    (whole_of t width height sites (suc k) b second isb eb).count ∙ sym (whole_of t width height sites 1 a first isa ea).count

-- a plane is read as its orientations are
pub plane_read : (t : Transform) (width height : ℕ) (sites : List (Option Found)) (a b c e : Option (List CodedBand)) (ll hl lh hh bands : List CodedBand)
    → AreWhole t sites → IsOrientation t width height sites 0 a → IsOrientation t width height sites 1 b → IsOrientation t width height sites 2 c → IsOrientation t width height sites 3 e
    → a ≡ Some ll → b ≡ Some hl → c ≡ Some lh → e ≡ Some hh → bands ≡ ll ++ chains.woven hl lh hh → ReadsPlane t width height sites bands × AreBandsOf t width height bands
plane_read t width height sites a b c e ll hl lh hh bands whole isa isb isc ise ia ib ic ie same =
    let are_read =
    planes_are_read_by_chains t width height sites ll hl lh hh whole
    (whole_of t width height sites 0 a ll isa ia) (whole_of t width height sites 1 b hl isb ib)
    (whole_of t width height sites 2 c lh isc ic) (whole_of t width height sites 3 e hh ise ie) in
    subst (λ (l : List CodedBand). ReadsPlane t width height sites l × AreBandsOf t width height l) (sym same) are_read

-- the rows of a plane by other names
pub rows_at : (s : Sequence) (t : Transform) (found : FoundPlanes) (xs : List (Option (List CodedBand))) (p : ℕ) (size : PlaneSize) (sites : List (Option Found)) (ys : List (Option (List CodedBand)))
    → p < 3 → AnswerRows (IsOrientationAt s t found) 12 xs → size ≡ size_in s (component_at p) → sites ≡ sites_among found (component_at p) → ys ≡ drop (4 * p) xs
    → AreOrientations t size.width size.height sites ys
rows_at s t found xs p size sites ys few answers e f g =
    subst (λ (l : List (Option (List CodedBand))). AreOrientations t size.width size.height sites l) (sym g)
    (subst (λ (q : List (Option Found)). AreOrientations t size.width size.height q (drop (4 * p) xs)) (sym f)
    (subst (λ (z : PlaneSize). AreOrientations t z.width z.height (sites_among found (component_at p)) (drop (4 * p) xs)) (sym e) (plane_rows s t found xs answers p few)))

-- what is read of a plane by other names
pub reads_at : (s : Sequence) (t : Transform) (found : FoundPlanes) (c : Component) (size : PlaneSize) (sites : List (Option Found)) (o : Option (List CodedBand)) (bands : List CodedBand)
    → size ≡ size_in s c → sites ≡ sites_among found c → o ≡ Some bands → IfSome o (ReadsPlane t size.width size.height sites)
    → ReadsPlane t (plane_width s c) (plane_height s c) (sites_among found c) bands
reads_at s t found c size sites o bands e f is are =
    subst (λ (z : PlaneSize). ReadsPlane t z.width z.height (sites_among found c) bands) e
    (subst (λ (q : List (Option Found)). ReadsPlane t size.width size.height q bands) f
    (subst (λ (x : Option (List CodedBand)). IfSome x (ReadsPlane t size.width size.height sites)) is are))

pub lawful_at : (s : Sequence) (t : Transform) (c : Component) (size : PlaneSize) (o : Option (List CodedBand)) (bands : List CodedBand)
    → size ≡ size_in s c → o ≡ Some bands → IfSome o (AreBandsOf t size.width size.height) → AreBandsOf t (plane_width s c) (plane_height s c) bands
lawful_at s t c size o bands e is are =
    subst (λ (z : PlaneSize). AreBandsOf t z.width z.height bands) e
    (subst (λ (x : Option (List CodedBand)). IfSome x (AreBandsOf t size.width size.height)) is are)

-- a refused plane by other names
pub refused_at : (s : Sequence) (t : Transform) (found : FoundPlanes) (c : Component) (size : PlaneSize) (sites : List (Option Found))
    → size ≡ size_in s c → sites ≡ sites_among found c → IsPlaneRefused t size.width size.height sites → IsOneRefused s t found
refused_at s t found c size sites e f is = record {
  component = c;
  plane = subst (λ (z : PlaneSize). IsPlaneRefused t z.width z.height (sites_among found c)) e (subst (λ (q : List (Option Found)). IsPlaneRefused t size.width size.height q) f is);
}

-- one thing that is read behind another
then_read : {A B : Type 0} (s : Syntax A) (f : A → Syntax B) (c e : Cursor) (a : A) (r : Result (B × Cursor) Refusal) → read s c ≡ Ok (a, e) → read (f a) e ≡ r → read (s >>= f) c ≡ r
then_read {A = A} s f c e a r is next =
    read_then s f c ∙ ap (λ (q : Result (A × Cursor) Refusal). q >> λ x. read (f x.0) x.1) is ∙ next

-- the planes of a picture are read where their blocks were found
pub planes_read : (s : Sequence) (t : Transform) (found : FoundPlanes) (p : ThreePlanes) (c d : Cursor) → AreFound t c found d → AreReadAs s t found p
    → read (planes s t) c ≡ Ok (residual_of_planes t p, d)
unfolding planes
planes_read s t found p c d are is =
    then_read (subbands_of_plane t s.width (picture_height s)) _ c are.behind_y p.y (Ok (residual_of_planes t p, d)) (is.y c are.behind_y are.y.each)
    (then_read (subbands_of_plane t (chroma_width s) (chroma_height s)) _ are.behind_y are.behind_u p.u (Ok (residual_of_planes t p, d)) (is.u are.behind_y are.behind_u are.u.each)
    (then_read (subbands_of_plane t (chroma_width s) (chroma_height s)) _ are.behind_u d p.v (Ok (residual_of_planes t p, d)) (is.v are.behind_u d are.v.each) refl))

-- what was found from a place on, by another name
found_from : (t : Transform) (o : Option FoundPlanes) (found : FoundPlanes) (c d e : Cursor) → d ≡ c → o ≡ Some found → IfSome o (λ f. AreFound t d f e) → AreFound t c found e
found_from t o found c d e same is at =
    subst (λ (b : Cursor). AreFound t b found e) same (subst (λ (x : Option FoundPlanes). IfSome x (λ f. AreFound t d f e)) is at)

-- planes that are read apart, and planes that aren't
pub read_lawful : (s : Sequence) (t : Transform) (found : FoundPlanes) (q : Option ThreePlanes) (p : ThreePlanes) → q ≡ Some p → IfSome q (AreReadAs s t found) → AreReadAs s t found p
read_lawful s t found q p is at = subst (λ (x : Option ThreePlanes). IfSome x (AreReadAs s t found)) is at

pub apart_read : (s : Sequence) (t : Transform) (o : Option FoundPlanes) (found : FoundPlanes) (q : Option ThreePlanes) (p : ThreePlanes) (c d e : Cursor)
    → d ≡ c → o ≡ Some found → q ≡ Some p → IfSome o (λ f. AreFound t d f e) → IfSome q (AreReadAs s t found)
    → read (planes s t) c ≡ Ok (residual_of_planes t p, e)
apart_read s t o found q p c d e same iso isq at are =
    planes_read s t found p c e (found_from t o found c d e same iso at) (read_lawful s t found q p isq are)

pub apart_missing : (s : Sequence) (t : Transform) (c d : Cursor) → d ≡ c → IsMissing (3 * band_count t.depth) d → AreRefused s t c
apart_missing s t c d same is = inl (subst (λ (b : Cursor). IsMissing (3 * band_count t.depth) b) same is)

pub apart_refused : (s : Sequence) (t : Transform) (o : Option FoundPlanes) (found : FoundPlanes) (c d e : Cursor)
    → d ≡ c → o ≡ Some found → IfSome o (λ f. AreFound t d f e) → IsOneRefused s t found → AreRefused s t c
apart_refused s t o found c d e same is at refused = inr (found, e, found_from t o found c d e same is at, refused)

-- their residual is one of the sequence
pub residual_fits : (s : Sequence) (t : Transform) (p : ThreePlanes) (r : CodedResidual) → IsTransform s.width (picture_height s) t → AreLawfulPlanes s t p → r ≡ residual_of_planes t p → IsResidual s r
residual_fits s t p r transform lawful e =
    subst (λ (x : CodedResidual). IsResidual s x) (sym e) (record { transform = transform; y = lawful.y; u = lawful.u; v = lawful.v })
