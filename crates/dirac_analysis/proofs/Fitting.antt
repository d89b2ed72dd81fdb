-- The sizes of the bands, and how large their values become.
use Rattle.std.proofs.Common.{◌≡◌, ℕ, zero, suc, ◌+◌, ◌-◌, ◌*◌, ◌/◌, ◌^◌, ◌<◌, ◌≤◌, ℤ, pos, negsuc, List, [], ◌∷◌, ◌++◌, length, get_or, Some, refl, sym, ap, ◌∙◌, subst, arith, unsigned_abs, inl, inr, length-append}
use Rattle.std.specs.Prelude.{slice_get, min}
use Rattle.std.specs.List.{All}
use Rattle.std.proofs.lemmas.Bool.{cases_eq, cases_lt}
use Rattle.std.proofs.lemmas.Int.{ints}
use Rattle.std.proofs.lemmas.Nat.{div-mul-add, div_below}
use Rattle.std.proofs.lemmas.Option.{slice_get_within}
use Rattle.dirac_common.specs.declared.formats.Kind.{Kind}
use Rattle.dirac_common.specs.declared.formats.Kind.TheVariants.{Intra, Inter}
use Rattle.dirac_common.specs.Table.{Table, table_at}
use Rattle.dirac_common.specs.Samples.{clip}
use Rattle.dirac_common.proofs.Bounds.{all_weaker, told_bound, values_bound}
use Rattle.dirac_bands.specs.DcSum.{IsDcSum}
use Rattle.dirac_bands.specs.Interleaving.{band_of}
use Rattle.dirac_bands.specs.Geometry.{level_of, padded_size}
use Rattle.dirac_bands.proofs.Predictions.{DifferencesFrom, differences_bound}
use Rattle.dirac_parameters.specs.Counts.{counts_at}
use Rattle.dirac_parameters.specs.declared.transform.Transform.{Transform}
use Rattle.dirac_coeffs.specs.declared.layout.CodedBand.{CodedBand}
use Rattle.dirac_lift.specs.Level.{analysed}
use Rattle.dirac_analysis.specs.Analysis.{coded_bands, coded_lowest, differences, padded}
use Rattle.dirac_analysis.specs.Coded.{coded}
use Rattle.dirac_analysis.specs.Fits.{AreDifferences, AreLevelBands, AreSamples, IsLevelBand, IsDivisible, IsQuantisable, grown}
use Rattle.dirac_analysis.specs.Laws.{PlanesFit}
use Rattle.dirac_analysis.proofs.FinerBands.{coded_fits}
use Rattle.dirac_analysis.proofs.OneLevel.{level_grows, low_divisible, padded_divisible}
use Rattle.dirac_analysis.proofs.Undone.{differences_sum, front_get}

pub min_below : (x n : ℕ) → 1 ≤ n → min x (n - 1) < n
min_below x n some = omega arith

-- ---- how large values are

pub all_under : (a b : ℕ) (xs : List ℤ) → a < b → All (λ v. unsigned_abs v ≤ a) xs → All (λ v. unsigned_abs v < b) xs
all_under a b xs l all k d i = omega (arith, l, all k d i)

-- after so many levels
grown_three : (n : ℕ) → n ≤ 3 → grown n < 2 ^ 29
unfolding grown
grown_three zero few = omega arith
grown_three (suc zero) few = omega arith
grown_three (suc (suc zero)) few = omega arith
grown_three (suc (suc (suc zero))) few = omega arith
grown_three (suc (suc (suc (suc n)))) few = absurd (omega arith)

grown_four : (n : ℕ) → n ≤ 4 → grown n ≤ 2 ^ 36
unfolding grown
grown_four zero few = omega arith
grown_four (suc n) few = omega (arith, grown_three n (omega arith))

pub small_lowest : (n : ℕ) (xs : List ℤ) → n ≤ 4 → All (λ v. unsigned_abs v ≤ grown n) xs → All (λ v. unsigned_abs v ≤ 2 ^ 36) xs
small_lowest n xs few all = all_weaker (grown n) (2 ^ 36) xs (grown_four n few) all

pub small_above : (n : ℕ) (xs : List ℤ) → n ≤ 3 → All (λ v. unsigned_abs v ≤ grown n) xs → All (λ v. unsigned_abs v ≤ 2 ^ 29) xs
small_above n xs few all = all_weaker (grown n) (2 ^ 29) xs (omega (arith, grown_three n few)) all

grown_least : (n : ℕ) → 255 ≤ grown n
unfolding grown
grown_least zero = omega arith
grown_least (suc n) = omega (arith, grown_least n)

-- samples are small
sample_small : (v : ℤ) → clip v ≡ v → unsigned_abs v ≤ 128
sample_small (pos n) is = grind (arith, ints)
sample_small (negsuc n) is = grind (arith, ints)

pub samples_small : (xs : List ℤ) → AreSamples xs → AreDifferences xs
samples_small xs all k d l = omega (arith, sample_small (get_or xs k d) (all k d l))

-- and so is what is padded
pub padded_small : (n depth : ℕ) (t : Table) → AreDifferences t.values → All (λ v. unsigned_abs v ≤ grown n) (padded depth t).values
padded_small n depth t all =
    let told : All (λ v. unsigned_abs v ≤ 255) (padded depth t).values = told_bound 255 (padded_size t.width depth) (padded_size t.height depth) (λ x y. table_at t (min x (t.width - 1)) (min y (t.height - 1)))
    (λ x y. values_bound 255 t.values all (min y (t.height - 1) * t.width + min x (t.width - 1))) in
    all_weaker 255 (grown n) (padded depth t).values (grown_least n) told

-- the values of a band are among those of the plane
band_bound : (b right below : ℕ) (t : Table) → All (λ v. unsigned_abs v ≤ b) t.values → All (λ v. unsigned_abs v ≤ b) (band_of t right below).values
band_bound b right below t all =
    told_bound b (t.width / 2) (t.height / 2) (λ x y. table_at t (2 * x + right) (2 * y + below)) (λ x y. values_bound b t.values all ((2 * y + below) * t.width + (2 * x + right)))

pub band_under : (b right below : ℕ) (t band : Table) → b < 2 ^ 38 → band ≡ band_of t right below → All (λ v. unsigned_abs v ≤ b) t.values → All (λ v. unsigned_abs v < 2 ^ 38) band.values
band_under b right below t band few is all = all_under b (2 ^ 38) band.values few (rw is (band_bound b right below t all))

pub band_quantisable : (b right below : ℕ) (t band : Table) → b < 2 ^ 38 → t.width ≤ 8192 → t.height ≤ 8192 → band ≡ band_of t right below → All (λ v. unsigned_abs v ≤ b) t.values → IsQuantisable band
band_quantisable b right below t band few across down is all =
    rw is
    (record { across = omega arith; down = omega arith; small = all_under b (2 ^ 38) (band_of t right below).values few (band_bound b right below t all) })

-- ---- a list of bands

-- what is asked of band n
Asked : List (ℕ × ℕ) → ℕ → ℕ → ℕ → ℕ → CodedBand → Type 0
Asked counts finer across down n b = IsLevelBand (counts_at counts (level_of n)) finer (across * 2 ^ ((n - 1) / 3)) (down * 2 ^ ((n - 1) / 3)) b

asked_here : (counts : List (ℕ × ℕ)) (finer across down doublings level n : ℕ) (b : CodedBand) (w h : ℕ) → (n - 1) / 3 ≡ doublings → level_of n ≡ level → w ≡ across * 2 ^ doublings → h ≡ down * 2 ^ doublings → IsLevelBand (counts_at counts level) finer w h b → Asked counts finer across down n b
unfolding Asked
asked_here counts finer across down doublings level n b w h twice at ew eh fits =
    subst (λ k. IsLevelBand (counts_at counts k) finer (across * 2 ^ ((n - 1) / 3)) (down * 2 ^ ((n - 1) / 3)) b) (sym at)
    (subst (λ k. IsLevelBand (counts_at counts level) finer (across * 2 ^ k) (down * 2 ^ k) b) (sym twice)
    (subst (λ k. IsLevelBand (counts_at counts level) finer k (down * 2 ^ doublings) b) ew (subst (λ k. IsLevelBand (counts_at counts level) finer w k b) eh fits)))

found_single : (b x : CodedBand) (n : ℕ) → slice_get (b ∷ []) n ≡ Some x → (n ≡ 0) × (b ≡ x)
found_single b x zero is = (refl, cc)
found_single b x (suc n) is = absurd (omega (arith, slice_get_within {A = CodedBand} [] n x is))

one_coded : (counts : List (ℕ × ℕ)) (finer across down : ℕ) (b : CodedBand) (w h : ℕ) → w ≡ across * 2 ^ 0 → h ≡ down * 2 ^ 0 → IsLevelBand (counts_at counts 0) finer w h b → AreLevelBands counts finer across down 0 (b ∷ [])
unfolding Asked
one_coded counts finer across down b w h ew eh fits = record {
  count = refl;
  each = λ n x there.
      let found = found_single b x n there in
      let twice : (n - 1) / 3 ≡ 0 = omega (arith, found.0) in
      let level : level_of n ≡ 0 = omega (arith, found.0) in
      subst (Asked counts finer across down n) found.1 (asked_here counts finer across down 0 0 n b w h twice level ew eh fits);
}

-- one of three, behind others
found_three : (xs : List CodedBand) (h l d x : CodedBand) (n : ℕ) (P : CodedBand → Type 0) → slice_get (xs ++ h ∷ l ∷ d ∷ []) n ≡ Some x → length xs ≤ n → P h → P l → P d → P x
found_three [] h l d x zero P is past ph pl pd =
    let same : h ≡ x = cc in
    subst P same ph
found_three [] h l d x (suc zero) P is past ph pl pd =
    let same : l ≡ x = cc in
    subst P same pl
found_three [] h l d x (suc (suc zero)) P is past ph pl pd =
    let same : d ≡ x = cc in
    subst P same pd
found_three [] h l d x (suc (suc (suc n))) P is past ph pl pd = absurd (omega (arith, slice_get_within {A = CodedBand} [] n x is))
found_three (y ∷ xs) h l d x zero P is past ph pl pd = absurd (omega arith)
found_three (y ∷ xs) h l d x (suc n) P is past ph pl pd = found_three xs h l d x n P is (omega arith) ph pl pd

more_coded : (counts : List (ℕ × ℕ)) (finer across down depth : ℕ) (xs : List CodedBand) (h l d : CodedBand) (w v : ℕ) → w ≡ across * 2 ^ depth → v ≡ down * 2 ^ depth
    → AreLevelBands counts finer across down depth xs → IsLevelBand (counts_at counts (suc depth)) finer w v h → IsLevelBand (counts_at counts (suc depth)) finer w v l → IsLevelBand (counts_at counts (suc depth)) finer w v d
    → AreLevelBands counts finer across down (suc depth) (xs ++ h ∷ l ∷ d ∷ [])
unfolding Asked
more_coded counts finer across down depth xs h l d w v ew eh fits fh fl fd =
    let three : List CodedBand = h ∷ l ∷ d ∷ [] in
    record {
      count = omega (arith, length-append xs three, fits.count);
      each = λ n x there. elim (cases_lt n (length xs)) [
        | inl before ↦ fits.each n x (sym (front_get xs three n before) ∙ there)
        | inr behind ↦
            let within : n < length (xs ++ three) = slice_get_within (xs ++ three) n x there in
            let twice : (n - 1) / 3 ≡ depth = omega (arith, fits.count, within, behind, length-append xs three) in
            let level : level_of n ≡ suc depth = omega (arith, fits.count, within, behind, length-append xs three) in
            let here : (b : CodedBand) → IsLevelBand (counts_at counts (suc depth)) finer w v b → Asked counts finer across down n b = λ b. asked_here counts finer across down depth (suc depth) n b w v twice level ew eh in
            found_three xs h l d x n (Asked counts finer across down n) there behind (here h fh) (here l fl) (here d fd)
      ];
    }

-- ---- one band

-- the differences of a table
differences_small : (b : ℕ) (t : Table) → length t.values ≡ t.width * t.height → All (λ v. unsigned_abs v ≤ b) t.values → All (λ v. unsigned_abs v ≤ 2 * b) (differences t).values
differences_small b t len all =
    let sums : IsDcSum (differences t) t = differences_sum t len in
    elim (cases_eq t.width 0) [
      | inl none ↦ λ i d inside. absurd (omega (arith, inside, sums.len, len, ap (λ w. w * t.height) none))
      | inr some ↦
          let all_from : DifferencesFrom t.width t.values (differences t).values 0 = record {
            len = sym sums.len;
            done = λ x y l _ inside. sums.each x y l (omega (arith, div-mul-add y t.width x l, div_below (y * t.width + x) t.width t.height (omega (arith, some)) (omega (arith, inside, len))));
            rest = λ q l. absurd (omega (arith, l));
          } in
          differences_bound b t.width t.values (differences t).values 0 all_from (omega (arith, some)) all
    ]

lowest_coded : (kind : Kind) (counts : ℕ × ℕ) (finer index : ℕ) (t : Table) → index ≤ 99 → length t.values ≡ t.width * t.height → All (λ v. unsigned_abs v ≤ 2 ^ 36) t.values → IsLevelBand counts finer t.width t.height (coded_lowest kind counts finer index t)
lowest_coded Intra counts finer index t few len small =
    coded_fits counts finer 0 (differences t) (omega arith)
    (all_under (2 * 2 ^ 36) (2 ^ 38) (differences t).values (omega arith) (differences_small (2 ^ 36) t len small))
lowest_coded Inter counts finer index t few len small = coded_fits counts finer index t few (all_under (2 ^ 36) (2 ^ 38) t.values (omega arith) small)

-- ---- the bands as they are defined

-- what is left to analyse
low_small : (wavelet n depth : ℕ) (t : Table) → wavelet ≤ 6 → IsDivisible (suc depth) t → All (λ v. unsigned_abs v ≤ grown n) t.values → All (λ v. unsigned_abs v ≤ grown (suc n)) (band_of (analysed wavelet t) 0 0).values
unfolding grown
low_small wavelet n depth t l is all =
    band_bound (128 * grown n + 32) 0 0 (analysed wavelet t) (level_grows wavelet (grown n) depth t l is all)

pub low_ready : (wavelet depth n : ℕ) (t low : Table) → wavelet ≤ 6 → depth ≡ suc n → depth ≤ 4 → low ≡ band_of (analysed wavelet t) 0 0 → t.width ≤ 8192 → t.height ≤ 8192 → IsDivisible depth t → All (λ v. unsigned_abs v ≤ grown (4 - depth)) t.values
    → (low.width ≤ 8192) × ((low.height ≤ 8192) × (IsDivisible n low × All (λ v. unsigned_abs v ≤ grown (4 - n)) low.values))
low_ready wavelet depth n t low l next few is_low across down is all =
    let whole : IsDivisible (suc n) t = subst (λ (m : ℕ). IsDivisible m t) next is in
    let more : suc (4 - depth) ≡ 4 - n = omega arith in
    let small : All (λ v. unsigned_abs v ≤ grown (4 - n)) (band_of (analysed wavelet t) 0 0).values =
    subst (λ (m : ℕ). All (λ v. unsigned_abs v ≤ grown m) (band_of (analysed wavelet t) 0 0).values) more (low_small wavelet (4 - depth) n t l whole all) in
    rw is_low (omega arith, (omega arith, (low_divisible wavelet n t whole, small)))

-- a band of HL, LH or HH
high_coded : (counts : ℕ × ℕ) (finer wavelet index depth right below : ℕ) (t : Table) → wavelet ≤ 6 → index ≤ 99 → IsDivisible (suc depth) t → All (λ v. unsigned_abs v ≤ 2 ^ 29) t.values → IsLevelBand counts finer (t.width / 2) (t.height / 2) (coded counts finer index (band_of (analysed wavelet t) right below))
high_coded counts finer wavelet index depth right below t l few is small =
    let grows : All (λ v. unsigned_abs v ≤ 128 * 2 ^ 29 + 32) (analysed wavelet t).values = level_grows wavelet (2 ^ 29) depth t l is small in
    coded_fits counts finer index (band_of (analysed wavelet t) right below) few
    (band_under (128 * 2 ^ 29 + 32) right below (analysed wavelet t) (band_of (analysed wavelet t) right below) (omega arith) refl grows)

bands_coded : (kind : Kind) (transform : Transform) (finer index n depth : ℕ) (t : Table) → transform.wavelet ≤ 6 → index ≤ 99 → n + depth ≤ 4 → (is : IsDivisible depth t) → All (λ v. unsigned_abs v ≤ grown n) t.values → AreLevelBands transform.counts finer is.across is.down depth (coded_bands kind transform finer index t depth)
unfolding coded_bands
bands_coded kind transform finer index n zero t l few levels is all =
    let counts : ℕ × ℕ = counts_at transform.counts 0 in
    one_coded transform.counts finer is.across is.down (coded_lowest kind counts finer index t) t.width t.height is.width is.height (lowest_coded kind counts finer index t few is.len (small_lowest n t.values (omega arith) all))
bands_coded kind transform finer index n (suc depth) t l few levels is all =
    let wavelet : ℕ = transform.wavelet in
    let counts : ℕ × ℕ = counts_at transform.counts (suc depth) in
    let mid : Table = analysed wavelet t in
    let low : IsDivisible depth (band_of mid 0 0) = low_divisible wavelet depth t is in
    let small : All (λ v. unsigned_abs v ≤ 2 ^ 29) t.values = small_above n t.values (omega arith) all in
    more_coded transform.counts finer is.across is.down depth (coded_bands kind transform finer index (band_of mid 0 0) depth) (coded counts finer index (band_of mid 1 0)) (coded counts finer index (band_of mid 0 1)) (coded counts finer index (band_of mid 1 1)) (t.width / 2) (t.height / 2)
    low.width low.height (bands_coded kind transform finer index (suc n) depth (band_of mid 0 0) l few (omega arith) low (low_small wavelet n depth t l is all))
    (high_coded counts finer wavelet index depth 1 0 t l few is small) (high_coded counts finer wavelet index depth 0 1 t l few is small) (high_coded counts finer wavelet index depth 1 1 t l few is small)

pub planes_fit : PlanesFit
planes_fit kind transform finer index t l levels few samples =
    bands_coded kind transform finer index 0 transform.depth (padded transform.depth t) l few (omega arith) (padded_divisible transform.depth t) (padded_small 0 transform.depth t samples)
