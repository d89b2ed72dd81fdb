-- The subbands of a plane are those of its analysis, quantised.
use Rattle.std.proofs.Common.{◌≡◌, ℕ, zero, suc, ◌+◌, ◌*◌, ◌/◌, ◌<◌, ◌≤◌, List, [], ◌∷◌, ◌++◌, length, take, refl, sym, ap, ap₂, ◌∙◌, subst, arith, get_or, Some, length-append}
use Rattle.std.specs.Prelude.{slice_get}
use Rattle.std.proofs.lemmas.List.{length-take-le, take_all, take_more}
use Rattle.std.proofs.lemmas.Option.{slice_get_within}
use Rattle.dirac_common.specs.declared.formats.Kind.{Kind}
use Rattle.dirac_common.specs.declared.formats.Kind.TheVariants.{Intra, Inter}
use Rattle.dirac_common.specs.Table.{Table}
use Rattle.dirac_bands.specs.Geometry.{level_of}
use Rattle.dirac_bands.specs.Interleaving.{band_of}
use Rattle.dirac_parameters.specs.Counts.{counts_among, counts_at}
use Rattle.dirac_parameters.specs.declared.transform.Transform.{Transform}
use Rattle.dirac_coeffs.specs.declared.layout.CodedBand.{CodedBand}
use Rattle.dirac_lift.specs.Level.{analysed}
use Rattle.dirac_analysis.specs.Analysis.{Analysis, analysis_of, as_coded, coded_bands, coded_from, coded_level, coded_lowest, higher_bands, level_bands, lowest_after, lowest_index, padded, plane_analysis, plane_bands, quantised}
use Rattle.dirac_analysis.specs.Coded.{coded}
use Rattle.dirac_analysis.specs.Fits.{AreQuantisable, IsQuantisable}

-- ---- the analysis, level by level

pub analysed_none : (kind : Kind) (wavelet : ℕ) (a : Analysis) (low plane : Table) → a ≡ record { lowest = low; higher = [] } → low ≡ as_coded kind plane → a ≡ analysis_of kind wavelet plane 0
unfolding lowest_after higher_bands
analysed_none kind wavelet a low plane is one = is ∙ ap (λ (t : Table). let x : Analysis = record { lowest = t; higher = [] } in x) one

pub analysed_more : (kind : Kind) (wavelet depth n : ℕ) (a b : Analysis) (h l d low plane : Table) → depth ≡ suc n → b ≡ record { lowest = a.lowest; higher = a.higher ++ h ∷ l ∷ d ∷ [] } → a ≡ analysis_of kind wavelet low n
    → low ≡ band_of (analysed wavelet plane) 0 0 → h ≡ band_of (analysed wavelet plane) 1 0 → l ≡ band_of (analysed wavelet plane) 0 1 → d ≡ band_of (analysed wavelet plane) 1 1
    → b ≡ analysis_of kind wavelet plane depth
unfolding lowest_after higher_bands
analysed_more kind wavelet depth n a b h l d low plane next is below low_is h_is l_is d_is =
    is ∙ rw (below, low_is, h_is, l_is, d_is) refl ∙ ap (analysis_of kind wavelet plane) (sym next)

-- ---- what can be quantised

none_in : (n : ℕ) (t : Table) → slice_get [] n ≡ Some t → ⊥
none_in n t is = omega (arith, slice_get_within {A = Table} [] n t is)

pub none_quantisable : (a : Analysis) (low : Table) → a ≡ record { lowest = low; higher = [] } → IsQuantisable low → AreQuantisable 0 a
none_quantisable a low is fits = rw is (record { count = refl; lowest = fits; higher = λ n t there. absurd (none_in n t there) })

-- one of three tables behind others
three_more : (xs : List Table) (h l d x : Table) (n : ℕ) → ((k : ℕ) (t : Table) → slice_get xs k ≡ Some t → IsQuantisable t) → IsQuantisable h → IsQuantisable l → IsQuantisable d → slice_get (xs ++ h ∷ l ∷ d ∷ []) n ≡ Some x
    → IsQuantisable x
three_more [] h l d x zero all ph pl pd is =
    let same : h ≡ x = cc in
    subst IsQuantisable same ph
three_more [] h l d x (suc zero) all ph pl pd is =
    let same : l ≡ x = cc in
    subst IsQuantisable same pl
three_more [] h l d x (suc (suc zero)) all ph pl pd is =
    let same : d ≡ x = cc in
    subst IsQuantisable same pd
three_more [] h l d x (suc (suc (suc n))) all ph pl pd is = absurd (none_in n x is)
three_more (y ∷ xs) h l d x zero all ph pl pd is = all 0 x is
three_more (y ∷ xs) h l d x (suc n) all ph pl pd is = three_more xs h l d x n (λ k t there. all (suc k) t there) ph pl pd is

pub more_quantisable : (depth n : ℕ) (a b : Analysis) (h l d : Table) → depth ≡ suc n → b ≡ record { lowest = a.lowest; higher = a.higher ++ h ∷ l ∷ d ∷ [] } → AreQuantisable n a → IsQuantisable h → IsQuantisable l → IsQuantisable d → AreQuantisable depth b
more_quantisable depth n a b h l d next is fits ph pl pd =
    let three : List Table = h ∷ l ∷ d ∷ [] in
    rw is (record {
      count = omega (arith, length-append a.higher three, fits.count, next);
      lowest = fits.lowest;
      higher = λ k t there. three_more a.higher h l d t k fits.higher ph pl pd there;
    })

-- ---- the law

lowest_same : (kind : Kind) (counts : ℕ × ℕ) (finer index : ℕ) (t : Table) → coded counts finer (lowest_index kind index) (as_coded kind t) ≡ coded_lowest kind counts finer index t
lowest_same Intra counts finer index t = refl
lowest_same Inter counts finer index t = refl

-- bands behind others
coded_behind : (counts : List (ℕ × ℕ)) (finer index n : ℕ) (xs ys : List Table) → coded_from counts finer index n (xs ++ ys) ≡ coded_from counts finer index n xs ++ coded_from counts finer index (n + length xs) ys
coded_behind counts finer index n [] ys = let same : n ≡ n + 0 = omega arith in ap (λ k. coded_from counts finer index k ys) same
coded_behind counts finer index n (x ∷ xs) ys =
    let same : suc n + length xs ≡ n + suc (length xs) = omega arith in
    ap (λ bs. coded (counts_at counts (level_of n)) finer index x ∷ bs)
    (coded_behind counts finer index (suc n) xs ys ∙ ap (λ k. coded_from counts finer index (suc n) xs ++ coded_from counts finer index k ys) same)

-- three bands of one level
three_coded : (counts : List (ℕ × ℕ)) (finer index n level : ℕ) (h l d : Table) → level_of n ≡ level → level_of (suc n) ≡ level → level_of (suc (suc n)) ≡ level
    → coded_from counts finer index n (h ∷ l ∷ d ∷ []) ≡ coded (counts_at counts level) finer index h ∷ coded (counts_at counts level) finer index l ∷ coded (counts_at counts level) finer index d ∷ []
three_coded counts finer index n level h l d eh el ed =
    let one : ℕ → Table → CodedBand = λ k t. coded (counts_at counts k) finer index t in
    ap (λ k. one k h ∷ one (level_of (suc n)) l ∷ one (level_of (suc (suc n))) d ∷ []) eh
    ∙ ap (λ k. one level h ∷ one k l ∷ one (level_of (suc (suc n))) d ∷ []) el
    ∙ ap (λ k. one level h ∷ one level l ∷ one k d ∷ []) ed

length-higher : (wavelet : ℕ) (t : Table) (depth : ℕ) → length (higher_bands wavelet t depth) ≡ 3 * depth
unfolding higher_bands
length-higher wavelet t zero = refl
length-higher wavelet t (suc depth) =
    let mid : Table = analysed wavelet t in
    omega (arith, length-append (higher_bands wavelet (band_of mid 0 0) depth) (level_bands mid), length-higher wavelet (band_of mid 0 0) depth)

bands_quantised : (kind : Kind) (transform : Transform) (finer index : ℕ) (t : Table) (depth : ℕ) → quantised kind transform finer index (analysis_of kind transform.wavelet t depth) ≡ coded_bands kind transform finer index t depth
unfolding lowest_after higher_bands coded_bands
bands_quantised kind transform finer index t zero = ap (λ (b : CodedBand). b ∷ []) (lowest_same kind (counts_at transform.counts 0) finer index t)
bands_quantised kind transform finer index t (suc depth) =
    let mid : Table = analysed transform.wavelet t in
    let low : Table = band_of mid 0 0 in
    let below : List Table = higher_bands transform.wavelet low depth in
    let first : CodedBand = coded (counts_at transform.counts 0) finer (lowest_index kind index) (as_coded kind (lowest_after transform.wavelet low depth)) in
    let len : length below ≡ 3 * depth = length-higher transform.wavelet low depth in
    ap (λ (bs : List CodedBand). first ∷ bs)
    (coded_behind transform.counts finer index 1 below (level_bands mid)
    ∙ ap (λ (bs : List CodedBand). coded_from transform.counts finer index 1 below ++ bs)
    (three_coded transform.counts finer index (1 + length below) (suc depth) (band_of mid 1 0) (band_of mid 0 1) (band_of mid 1 1) (omega (arith, len)) (omega (arith, len)) (omega (arith, len))))
    ∙ ap (λ (bs : List CodedBand). bs ++ coded_level (counts_at transform.counts (suc depth)) finer index mid) (bands_quantised kind transform finer index low depth)

-- the bands of a plane are those of its analysis, quantised
pub plane_quantised : (kind : Kind) (transform : Transform) (finer index : ℕ) (t : Table) → quantised kind transform finer index (plane_analysis kind transform t) ≡ plane_bands kind transform finer index t
plane_quantised kind transform finer index t = bands_quantised kind transform finer index (padded transform.depth t) transform.depth

-- ---- band by band

pub listed_table : (xs : List Table) (n : ℕ) (t : Table) → n < length xs → t ≡ get_or xs n t → slice_get xs n ≡ Some t
listed_table [] n t l e = absurd (omega arith)
listed_table (x ∷ xs) zero t l e = ap Some (sym e)
listed_table (x ∷ xs) (suc n) t l e = listed_table xs n t (omega arith) e

pub one_quantised : (x b : CodedBand) (counts : List (ℕ × ℕ)) (told : ℕ × ℕ) (level finer index n : ℕ) (ts : List Table) (t : Table) (old new : List CodedBand) → slice_get counts level ≡ Some told → level ≡ n / 3 + 1 → n < length ts → t ≡ get_or ts n t
    → b ≡ coded told finer index t → old ≡ x ∷ coded_from counts finer index 1 (take n ts) → new ≡ old ++ b ∷ []
    → new ≡ x ∷ coded_from counts finer index 1 (take (n + 1) ts)
one_quantised x b counts told level finer index n ts t old new is_told el l at eb so is =
    let here : Table = get_or ts n t in
    let taken : 1 + length (take n ts) ≡ 1 + n = ap (λ k. 1 + k) (length-take-le n ts (omega (arith, l))) in
    let same : level ≡ level_of (1 + n) = omega (arith, el) in
    let band : b ≡ coded (counts_at counts (level_of (1 + n))) finer index here =
    eb ∙ ap (λ (c : ℕ × ℕ). coded c finer index t) (sym (ap counts_among is_told)) ∙ ap (λ k. coded (counts_at counts k) finer index t) same ∙ ap (coded (counts_at counts (level_of (1 + n))) finer index) at in
    is ∙ ap₂ (λ (xs : List CodedBand) (y : CodedBand). xs ++ y ∷ []) so band
    ∙ ap (λ k. x ∷ coded_from counts finer index 1 (take n ts) ++ coded_from counts finer index k (here ∷ [])) (sym taken)
    ∙ ap (λ (bs : List CodedBand). x ∷ bs) (sym (coded_behind counts finer index 1 (take n ts) (here ∷ [])))
    ∙ ap (λ (ys : List Table). x ∷ coded_from counts finer index 1 ys) (sym (take_more ts n t l))

pub all_quantised : (x : CodedBand) (counts : List (ℕ × ℕ)) (finer index n : ℕ) (ts : List Table) (bands : List CodedBand) → length ts ≤ n → bands ≡ x ∷ coded_from counts finer index 1 (take n ts) → bands ≡ x ∷ coded_from counts finer index 1 ts
all_quantised x counts finer index n ts bands l so =
    so ∙ ap (λ (ys : List Table). x ∷ coded_from counts finer index 1 ys) (take_all n ts l)

pub first_quantised : (kind : Kind) (counts : List (ℕ × ℕ)) (told : ℕ × ℕ) (finer index low_index : ℕ) (a : Analysis) (low : Table) (higher : List Table) (b : CodedBand) (bands : List CodedBand) → slice_get counts 0 ≡ Some told → low_index ≡ lowest_index kind index
    → low ≡ a.lowest → b ≡ coded told finer low_index low → bands ≡ b ∷ []
    → bands ≡ coded (counts_at counts 0) finer (lowest_index kind index) a.lowest ∷ coded_from counts finer index 1 (take 0 higher)
first_quantised kind counts told finer index low_index a low higher b bands is_told ei el eb is =
    is ∙ ap (λ (x : CodedBand). x ∷ [])
    (eb ∙ ap (λ (c : ℕ × ℕ). coded c finer low_index low) (sym (ap counts_among is_told)) ∙ ap₂ (λ (i : ℕ) (t : Table). coded (counts_at counts 0) finer i t) ei el)

-- a band that is read by its index
pub found_quantisable : (depth : ℕ) (a : Analysis) (ts : List Table) (n : ℕ) (t : Table) → AreQuantisable depth a → ts ≡ a.higher → n < length ts → t ≡ get_or ts n t → IsQuantisable t
found_quantisable depth a ts n t fits same l at = fits.higher n t (ap (λ (xs : List Table). slice_get xs n) (sym same) ∙ listed_table ts n t l at)
