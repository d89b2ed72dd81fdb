-- At index 0 nothing is lost.
use Rattle.std.proofs.Common.{◌≡◌, ℕ, zero, suc, ℤ, pos, negsuc, neg_ℤ, ◌+◌, ◌-◌, ◌*◌, ◌/◌, ◌%◌, ◌<◌, ◌≤◌, ◌+ℤ◌, ◌-ℤ◌, if◌then◌else◌, Bool, true, false, List, [], ◌∷◌, ◌++◌, length, map, get_or, refl, sym, ap, ◌∙◌, arith, inl, inr, length-append}
use Rattle.std.specs.Prelude.{replicate, slice_get, min}
use Rattle.std.proofs.lemmas.Bool.{cases_eq, ne_eqb}
use Rattle.std.proofs.lemmas.Int.{ints}
use Rattle.std.proofs.lemmas.List.{ext_get_or}
use Rattle.std.proofs.lemmas.List.FromFn.{fill_by_all}
use Rattle.std.proofs.lemmas.Nat.{div-add-mod'}
use Rattle.dirac_common.specs.declared.formats.Kind.{Kind}
use Rattle.dirac_common.specs.declared.formats.Kind.TheVariants.{Intra, Inter}
use Rattle.dirac_common.specs.Table.{Table, filled, table_at}
use Rattle.dirac_common.proofs.Rows.{filled_at}
use Rattle.dirac_quant.specs.Quantiser.{factor_of, reduced, restored, restored_magnitude}
use Rattle.dirac_bands.specs.DcSum.{dc_sum, dc_prediction, IsDcSum}
use Rattle.dirac_bands.specs.Interleaving.{band_of}
use Rattle.dirac_bands.specs.Geometry.{padded_size}
use Rattle.dirac_bands.proofs.Predictions.{is_sums, sums_determined}
use Rattle.dirac_bands.proofs.Undoing.{table_is}
use Rattle.dirac_parameters.specs.Counts.{counts_at}
use Rattle.dirac_parameters.specs.declared.transform.Transform.{Transform}
use Rattle.dirac_coeffs.specs.declared.layout.CodedBand.{CodedBand}
use Rattle.dirac_coeffs.specs.Indices.{index_at}
use Rattle.dirac_coeffs.specs.Written.{is_zero_band}
use Rattle.dirac_lift.specs.Level.{analysed, level}
use Rattle.dirac_synthesis.specs.Codeblocks.{codeblock_of, index_in, restored_band}
use Rattle.dirac_synthesis.specs.Residual.{after_levels, cut, restored_among, summed}
use Rattle.dirac_synthesis.proofs.LevelLemmas.{more_levels}
use Rattle.dirac_synthesis.proofs.Sizes.{size_within}
use Rattle.dirac_analysis.specs.Analysis.{coded_bands, coded_level, coded_lowest, differences, padded, plane_bands}
use Rattle.dirac_analysis.specs.Coded.{coded, coded_by_one, index_unless_zero, reduced_values}
use Rattle.dirac_analysis.specs.Fits.{IsDivisible}
use Rattle.dirac_analysis.specs.Laws.{PlanesAreKept}
use Rattle.dirac_analysis.proofs.FinerBands.{coded_zero}
use Rattle.dirac_analysis.proofs.OneLevel.{length-filled, level_back, low_divisible, padded_divisible, sizes_even}

-- ---- one value

whole_step : (m : ℕ) → 4 * m / factor_of 0 ≡ m
whole_step m = omega arith

back : (kind : Kind) (m : ℕ) → restored_magnitude m 0 kind ≡ m
back kind zero = refl
back kind (suc m) =
    let parts : (suc m * 4 + 1 + 2) / 4 ≡ suc m = omega arith in
    rw (ne_eqb (suc m) 0 (λ e. omega arith)) parts

value_again : (kind : Kind) (v : ℤ) → restored (reduced v 0) 0 kind ≡ v
value_again kind (pos n) = ap (λ m. restored (pos m) 0 kind) (whole_step n) ∙ ap pos (back kind n)
value_again kind (negsuc n) = ap (λ m. restored (neg_ℤ (pos m)) 0 kind) (whole_step (suc n)) ∙ ap (λ m. neg_ℤ (pos m)) (back kind (suc n))

-- values that are told by column and row
filled_by : (f : ℕ → ℕ → ℤ) (xs : List ℤ) (w h : ℕ) → length xs ≡ w * h → ((p : ℕ) → get_or xs p (pos 0) ≡ f (p % w) (p / w)) → xs ≡ filled w h f
unfolding filled
filled_by f xs w h len each = fill_by_all (λ p. f (p % w) (p / w)) xs (w * h) (pos 0) len (λ p l. each p)

zero_index : (b : Bool) → let index : ℕ = if b then 0 else 0 in index ≡ 0
zero_index true = refl
zero_index false = refl

-- each of so many indices
same_index : (n k : ℕ) → index_at (replicate n 0) k ≡ 0
same_index zero k = refl
same_index (suc n) zero = refl
same_index (suc n) (suc k) = same_index n k

index_zero : (n index k : ℕ) → index ≡ 0 → index_at (replicate n index) k ≡ 0
index_zero n index k e = ap (λ i. index_at (replicate n i) k) e ∙ same_index n k

-- a value coded at index 0, anywhere
value_kept : (kind : Kind) (xs : List ℤ) (q : ℕ) → restored (get_or (map (λ v. reduced v 0) xs) q (pos 0)) 0 kind ≡ get_or xs q (pos 0)
value_kept kind [] q = refl
value_kept kind (x ∷ xs) zero = value_again kind x
value_kept kind (x ∷ xs) (suc q) = value_kept kind xs q

-- a band whose codeblocks are all coded at index 0
one_again : (kind : Kind) (counts : ℕ × ℕ) (t : Table) → length t.values ≡ t.width * t.height → restored_band kind counts (coded_by_one counts 0 t) ≡ t
one_again kind counts t len =
    let w : ℕ = t.width in
    let h : ℕ = t.height in
    let b : CodedBand = coded_by_one counts 0 t in
    let f : ℕ → ℕ → ℤ = λ x y. restored (table_at b.table x y) (index_in counts b x y) kind in
    let each : (p : ℕ) → get_or t.values p (pos 0) ≡ f (p % w) (p / w) = λ p.
    sym (value_kept kind t.values p)
    ∙ ap (λ i. restored (get_or (reduced_values 0 t) i (pos 0)) 0 kind) (sym (div-add-mod' p w))
    ∙ ap (λ i. restored (table_at b.table (p % w) (p / w)) i kind)
    (sym (index_zero (counts.0 * counts.1) (index_unless_zero 0 t) (codeblock_of h counts.1 (p / w) * counts.0 + codeblock_of w counts.0 (p % w)) (zero_index (is_zero_band (reduced_values 0 t))))) in
    ap (λ (vs : List ℤ). record t { values = vs }) (sym (filled_by f t.values w h len each))

-- a band coded at index 0
band_again : (kind : Kind) (counts : ℕ × ℕ) (finer : ℕ) (t : Table) → length t.values ≡ t.width * t.height → restored_band kind counts (coded counts finer 0 t) ≡ t
band_again kind counts finer t len = ap (restored_band kind counts) (coded_zero counts finer t len) ∙ one_again kind counts t len

-- ---- the LL band

-- a difference and what was taken away
again : (v p : ℤ) → v ≡ (v -ℤ p) +ℤ p
again v p = omega (arith, ints)

-- a table is the sum of its differences
pub differences_sum : (t : Table) → length t.values ≡ t.width * t.height → IsDcSum (differences t) t
differences_sum t len =
    let told : ℕ → ℕ → ℤ = λ x y. table_at t x y -ℤ dc_prediction t x y in
    record {
      width = refl;
      height = refl;
      len = len ∙ sym (length-filled t.width t.height told);
      each = λ x y l k. again (table_at t x y) (dc_prediction t x y) ∙ ap (λ v. v +ℤ dc_prediction t x y) (sym (filled_at told t.width t.height x y l k));
    }

sums_again : (t : Table) → 1 ≤ t.width → length t.values ≡ t.width * t.height → dc_sum (differences t) ≡ t
sums_again t some len =
    let sums : IsDcSum (differences t) t = differences_sum t len in
    sums_determined (differences t) t (dc_sum (differences t)) some len sums (is_sums (differences t) (sym sums.len ∙ len))

moved_over : (a b c : ℤ) → a ≡ b +ℤ c → b ≡ a -ℤ c
moved_over a b c e = omega (arith, ints)

-- what was subtracted from
pub differences_are : (old new : Table) → 1 ≤ new.width → length new.values ≡ new.width * new.height → IsDcSum new old → new ≡ differences old
differences_are old new some len sums =
    table_is (λ x y. table_at old x y -ℤ dc_prediction old x y) new old.width old.height (sym sums.width) (sym sums.height) (omega (arith, sums.width)) len
    (λ x y p q. moved_over (table_at old x y) (table_at new x y) (dc_prediction old x y) (sums.each x y (omega (arith, p, sums.width)) (omega (arith, q, sums.height))))

-- ---- the levels

pub front_get : {X : Type 0} (xs ys : List X) (n : ℕ) → n < length xs → slice_get (xs ++ ys) n ≡ slice_get xs n
front_get [] ys n l = absurd (omega arith)
front_get (x ∷ xs) ys zero l = refl
front_get (x ∷ xs) ys (suc n) l = front_get xs ys n (omega arith)

pub back_get : {X : Type 0} (xs ys : List X) (n k : ℕ) → k ≡ length xs + n → slice_get (xs ++ ys) k ≡ slice_get ys n
back_get [] ys n k e = ap (slice_get ys) (omega (arith, e))
back_get (x ∷ xs) ys n zero e = absurd (omega arith)
back_get (x ∷ xs) ys n (suc k) e = back_get xs ys n k (omega arith)

-- the first levels read the first bands alone
levels_front : (t : Transform) (kind : Kind) (xs ys : List CodedBand) (n : ℕ) → 3 * n + 1 ≤ length xs → after_levels t kind (xs ++ ys) n ≡ after_levels t kind xs n
unfolding after_levels
levels_front t kind xs ys zero few = ap (λ o. summed kind (restored_among kind (counts_at t.counts 0) o)) (front_get xs ys 0 (omega arith))
levels_front t kind xs ys (suc n) few =
    rw (levels_front t kind xs ys n (omega arith), front_get xs ys (3 * n + 1) (omega arith), front_get xs ys (3 * n + 2) (omega arith), front_get xs ys (3 * n + 3) (omega arith)) refl

-- one level more
level_more : (t : Transform) (kind : Kind) (xs : List CodedBand) (h l d : CodedBand) (n : ℕ) → length xs ≡ 3 * n + 1
    → let counts : ℕ × ℕ = counts_at t.counts (suc n) in after_levels t kind (xs ++ h ∷ l ∷ d ∷ []) (suc n) ≡ level t.wavelet (after_levels t kind xs n) (restored_band kind counts h) (restored_band kind counts l) (restored_band kind counts d)
level_more t kind xs h l d n len =
    let ys : List CodedBand = h ∷ l ∷ d ∷ [] in
    let counts : ℕ × ℕ = counts_at t.counts (suc n) in
    let next : Table = level t.wavelet (after_levels t kind xs n) (restored_band kind counts h) (restored_band kind counts l) (restored_band kind counts d) in
    let one : n + 1 ≡ suc n = omega arith in
    ap (after_levels t kind (xs ++ ys)) (sym one)
    ∙ sym (more_levels t kind (xs ++ ys) n counts h l d (after_levels t kind xs n) next (ap (counts_at t.counts) one) (sym (levels_front t kind xs ys n (omega (arith, len))))
    (back_get xs ys 0 (3 * n + 1) (omega (arith, len))) (back_get xs ys 1 (3 * n + 2) (omega (arith, len))) (back_get xs ys 2 (3 * n + 3) (omega (arith, len))) refl)

-- ---- the bands as they are defined

length-coded_bands : (kind : Kind) (transform : Transform) (finer index : ℕ) (t : Table) (depth : ℕ) → length (coded_bands kind transform finer index t depth) ≡ 3 * depth + 1
unfolding coded_bands
length-coded_bands kind transform finer index t zero = refl
length-coded_bands kind transform finer index t (suc depth) =
    let mid : Table = analysed transform.wavelet t in
    omega (arith, length-append (coded_bands kind transform finer index (band_of mid 0 0) depth) (coded_level (counts_at transform.counts (suc depth)) finer index mid), length-coded_bands kind transform finer index (band_of mid 0 0) depth)

-- ---- padding

-- what was padded is cut off
cut_again : (depth : ℕ) (t : Table) → 1 ≤ t.width → length t.values ≡ t.width * t.height → cut t.width t.height (padded depth t) ≡ t
cut_again depth t some len =
    let f : ℕ → ℕ → ℤ = λ x y. table_at t (min x (t.width - 1)) (min y (t.height - 1)) in
    sym (table_is (table_at (padded depth t)) t t.width t.height refl refl some len (λ x y p q.
    let column : min x (t.width - 1) ≡ x = omega arith in
    let row : min y (t.height - 1) ≡ y = omega arith in
    let here : table_at (padded depth t) x y ≡ f x y = filled_at f (padded_size t.width depth) (padded_size t.height depth) x y (omega (arith, size_within t.width depth)) (omega (arith, size_within t.height depth)) in
    sym (here ∙ ap (λ a. table_at t a (min y (t.height - 1))) column ∙ ap (table_at t x) row)))

-- a table without columns is cut from any
empty_again : (t u : Table) → t.width ≡ 0 → length t.values ≡ t.width * t.height → cut t.width t.height u ≡ t
empty_again t u none len =
    let told : length (cut t.width t.height u).values ≡ t.width * t.height = length-filled t.width t.height (table_at u) in
    ap (λ (vs : List ℤ). record t { values = vs }) (ext_get_or (pos 0) (cut t.width t.height u).values t.values (told ∙ sym len) (λ i l. absurd (omega (arith, l, told, ap (λ w. w * t.height) none))))

-- ---- a plane

-- the LL band at index 0 holds its table
lowest_kept : (kind : Kind) (counts : ℕ × ℕ) (finer : ℕ) (t : Table) → 1 ≤ t.width → length t.values ≡ t.width * t.height → summed kind (restored_band kind counts (coded_lowest kind counts finer 0 t)) ≡ t
lowest_kept Intra counts finer t some len =
    ap dc_sum (band_again Intra counts finer (differences t) (sym (differences_sum t len).len ∙ len)) ∙ sums_again t some len
lowest_kept Inter counts finer t some len = band_again Inter counts finer t len

-- a band of a table has all its values
length-band : (t : Table) (right below : ℕ) → length (band_of t right below).values ≡ (band_of t right below).width * (band_of t right below).height
length-band t right below = length-filled (t.width / 2) (t.height / 2) (λ x y. table_at t (2 * x + right) (2 * y + below))

-- the bands at index 0 hold the table
bands_kept : (kind : Kind) (transform : Transform) (finer depth : ℕ) (t : Table) → transform.wavelet ≤ 6 → 1 ≤ t.width → IsDivisible depth t → after_levels transform kind (coded_bands kind transform finer 0 t depth) depth ≡ t
unfolding after_levels coded_bands
bands_kept kind transform finer zero t l some is = lowest_kept kind (counts_at transform.counts 0) finer t some is.len
bands_kept kind transform finer (suc depth) t l some is =
    let wavelet : ℕ = transform.wavelet in
    let counts : ℕ × ℕ = counts_at transform.counts (suc depth) in
    let mid : Table = analysed wavelet t in
    let low : Table = band_of mid 0 0 in
    level_more transform kind (coded_bands kind transform finer 0 low depth) (coded counts finer 0 (band_of mid 1 0)) (coded counts finer 0 (band_of mid 0 1)) (coded counts finer 0 (band_of mid 1 1)) depth (length-coded_bands kind transform finer 0 low depth)
    ∙ rw (
      bands_kept kind transform finer depth low l (omega (arith, (sizes_even (suc depth) depth t refl is).0)) (low_divisible wavelet depth t is),
      band_again kind counts finer (band_of mid 1 0) (length-band mid 1 0),
      band_again kind counts finer (band_of mid 0 1) (length-band mid 0 1),
      band_again kind counts finer (band_of mid 1 1) (length-band mid 1 1),
    )
    (level_back wavelet depth t l some is)

pub planes_kept : PlanesAreKept
planes_kept kind transform finer t l len = elim (cases_eq t.width 0) [
  | inl none ↦ empty_again t (after_levels transform kind (plane_bands kind transform finer 0 t) transform.depth) none len
  | inr some ↦
      ap (cut t.width t.height) (bands_kept kind transform finer transform.depth (padded transform.depth t) l (omega (arith, some, size_within t.width transform.depth)) (padded_divisible transform.depth t))
      ∙ cut_again transform.depth t (omega (arith, some)) len
]
