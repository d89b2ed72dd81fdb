-- Bands of zeros stand for a residual of zeros.
use Rattle.std.proofs.Common.{◌≡◌, ℕ, zero, suc, ℤ, pos, negsuc, ◌+◌, ◌-◌, ◌*◌, ◌/◌, ◌%◌, ◌^◌, ◌≤◌, ◌==◌, ◌+ℤ◌, if◌then◌else◌, Bool, true, false, List, [], ◌∷◌, ◌++◌, Option, None, Some, length, get_or, unsigned_abs, refl, sym, ap, ap₂, ◌∙◌, arith, map}
use Rattle.std.specs.List.{All}
use Rattle.std.specs.Prelude.{replicate, slice_get}
use Rattle.std.proofs.Math.IntN.{+ℤ_idl}
use Rattle.std.proofs.lemmas.Bool.{and_parts}
use Rattle.std.proofs.lemmas.List.{ext_get_or, length-map, length-replicate}
use Rattle.std.proofs.lemmas.List.FromFn.{length-map-range_with_len}
use Rattle.std.proofs.lemmas.Simd.{zip2_splat_left}
use Rattle.dirac_common.specs.Samples.{clip, mean_of_three}
use Rattle.dirac_common.specs.declared.formats.Kind.{Kind}
use Rattle.dirac_common.specs.declared.formats.Kind.TheVariants.{Intra, Inter}
use Rattle.dirac_common.specs.Table.{Table, filled, table_at, with_values}
use Rattle.dirac_quant.specs.Quantiser.{restored}
use Rattle.dirac_bands.specs.DcSum.{prediction_in, sums_up_to, value_at}
use Rattle.dirac_bands.specs.Geometry.{level_of}
use Rattle.dirac_parameters.specs.Counts.{counts_at}
use Rattle.dirac_parameters.specs.declared.transform.Transform.{Transform}
use Rattle.dirac_coeffs.specs.declared.layout.CodedBand.{CodedBand}
use Rattle.dirac_coeffs.specs.Contexts.{is_zero}
use Rattle.dirac_coeffs.specs.Written.{is_zero_band}
use Rattle.dirac_lift.specs.Zeros.{AreZeros}
use Rattle.dirac_lift.proofs.LevelLemmas.{lent_is}
use Rattle.dirac_lift.proofs.ZerosKept.{ReadsZeros, filled_zeros, level_zeros, read_zeros, zeros_read}
use Rattle.dirac_synthesis.specs.Codeblocks.{index_in, restored_band}
use Rattle.dirac_synthesis.specs.Residual.{after_levels, clipped, residual, restored_among, restored_at, rows_between, summed, summed_with, with_prediction}
use Rattle.dirac_synthesis.specs.Zeros.{ZerosStandForZeros, are_zero_bands, zeros}

zero_is : (x : ℤ) → is_zero x ≡ true → x ≡ pos 0
zero_is (pos zero) e = refl
zero_is (pos (suc n)) e = absurd cc
zero_is (negsuc n) e = absurd cc

band_zeros : (xs : List ℤ) → is_zero_band xs ≡ true → ReadsZeros xs
band_zeros [] e k = refl
band_zeros (x ∷ xs) e zero = zero_is x (and_parts (is_zero x) (is_zero_band xs) e).0
band_zeros (x ∷ xs) e (suc k) = band_zeros xs (and_parts (is_zero x) (is_zero_band xs) e).1 k

-- a value 0 stands for 0 at each index
band_zero : (kind : Kind) (counts : ℕ × ℕ) (b : CodedBand) → ReadsZeros b.table.values → ReadsZeros (restored_band kind counts b).values
band_zero kind counts b e =
    filled_zeros b.table.width b.table.height (λ x y. restored (table_at b.table x y) (index_in counts b x y) kind)
    (λ x y. ap (λ v. restored v (index_in counts b x y) kind) (e (y * b.table.width + x)))

bands_zero : (counts : ℕ × ℕ) (bands : List CodedBand) (n : ℕ) → are_zero_bands bands ≡ true → ReadsZeros (restored_among Inter counts (slice_get bands n)).values
bands_zero counts [] n e = λ k. refl
bands_zero counts (b ∷ bands) zero e = band_zero Inter counts b (band_zeros b.table.values (and_parts (is_zero_band b.table.values) (are_zero_bands bands) e).0)
bands_zero counts (b ∷ bands) (suc n) e = bands_zero counts bands n (and_parts (is_zero_band b.table.values) (are_zero_bands bands) e).1

-- all bands of a list have zeros alone
abbrev pub HaveZeros : List CodedBand → Type 0
HaveZeros bands = (n : ℕ) (band : CodedBand) → slice_get bands n ≡ Some band → AreZeros band.table.values

among_zero : (kind : Kind) (counts : ℕ × ℕ) (o : Option CodedBand) → ((band : CodedBand) → o ≡ Some band → AreZeros band.table.values)
    → ReadsZeros (restored_among kind counts o).values
among_zero kind counts None h = λ k. refl
among_zero kind counts (Some b) h = band_zero kind counts b (zeros_read b.table.values (h b refl))

-- the prediction among zeros is 0, so zeros are summed up to zeros
if_zero : (b : Bool) (u v : ℤ) → u ≡ pos 0 → v ≡ pos 0 → (if b then u else v) ≡ pos 0
if_zero true u v p q = p
if_zero false u v p q = q

mean_zero : (a b c : ℤ) → a ≡ pos 0 → b ≡ pos 0 → c ≡ pos 0 → mean_of_three a b c ≡ pos 0
mean_zero a b c p q r = rw (p, q, r) refl

prediction_zero : (xs : List ℤ) (w x y : ℕ) → ReadsZeros xs → prediction_in xs w x y ≡ pos 0
unfolding prediction_in
prediction_zero xs w x y h =
    if_zero (y == 0) (if x == 0 then pos 0 else value_at xs w (x - 1) 0)
    (if x == 0 then value_at xs w 0 (y - 1) else mean_of_three (value_at xs w (x - 1) y) (value_at xs w x (y - 1)) (value_at xs w (x - 1) (y - 1)))
    (if_zero (x == 0) (pos 0) (value_at xs w (x - 1) 0) refl (h (0 * w + (x - 1))))
    (if_zero (x == 0) (value_at xs w 0 (y - 1)) (mean_of_three (value_at xs w (x - 1) y) (value_at xs w x (y - 1)) (value_at xs w (x - 1) (y - 1)))
    (h ((y - 1) * w + 0))
    (mean_zero (value_at xs w (x - 1) y) (value_at xs w x (y - 1)) (value_at xs w (x - 1) (y - 1)) (h (y * w + (x - 1))) (h ((y - 1) * w + x)) (h ((y - 1) * w + (x - 1)))))

appended_zero : (xs : List ℤ) (v : ℤ) → ReadsZeros xs → v ≡ pos 0 → ReadsZeros (xs ++ v ∷ [])
appended_zero [] v h e zero = e
appended_zero [] v h e (suc k) = refl
appended_zero (x ∷ xs) v h e zero = h zero
appended_zero (x ∷ xs) v h e (suc k) = appended_zero xs v (λ n. h (suc n)) e k

sums_zero : (xs : List ℤ) (w n : ℕ) → ReadsZeros xs → ReadsZeros (sums_up_to xs w n)
unfolding sums_up_to
sums_zero xs w zero h = λ k. refl
sums_zero xs w (suc n) h =
    let before = sums_zero xs w n h in
    appended_zero (sums_up_to xs w n) (get_or xs n (pos 0) +ℤ prediction_in (sums_up_to xs w n) w (n % w) (n / w)) before
    (ap₂ (λ a b. a +ℤ b) (h n) (prediction_zero (sums_up_to xs w n) w (n % w) (n / w) before))

summed_zero : (kind : Kind) (t : Table) → ReadsZeros t.values → ReadsZeros (summed kind t).values
summed_zero Intra t h = sums_zero t.values t.width (length t.values) h
summed_zero Inter t h = h

levels_zero : (t : Transform) (kind : Kind) (bands : List CodedBand) (n : ℕ)
    → ((counts : ℕ × ℕ) (k : ℕ) → ReadsZeros (restored_among kind counts (slice_get bands k)).values) → ReadsZeros (after_levels t kind bands n).values
unfolding after_levels
levels_zero t kind bands zero e = summed_zero kind (restored_at t kind bands 0) (e (counts_at t.counts (level_of 0)) 0)
levels_zero t kind bands (suc n) e =
    level_zeros t.wavelet (after_levels t kind bands n) (restored_at t kind bands (3 * n + 1)) (restored_at t kind bands (3 * n + 2)) (restored_at t kind bands (3 * n + 3))
    (levels_zero t kind bands n e) (e (counts_at t.counts (level_of (3 * n + 1))) (3 * n + 1)) (e (counts_at t.counts (level_of (3 * n + 2))) (3 * n + 2))
    (e (counts_at t.counts (level_of (3 * n + 3))) (3 * n + 3))

replicated : (n k : ℕ) → get_or (replicate n (pos 0)) k (pos 0) ≡ pos 0
replicated zero k = refl
replicated (suc n) zero = refl
replicated (suc n) (suc k) = replicated n k

pub length-filled : (w h : ℕ) (f : ℕ → ℕ → ℤ) → length (filled w h f) ≡ w * h
unfolding filled
length-filled w h f = length-map-range_with_len (λ p. f (p % w) (p / w)) 0 (w * h)

zeros_filled : (w h : ℕ) (f : ℕ → ℕ → ℤ) → ReadsZeros (filled w h f) → record { width = w; height = h; values = filled w h f } ≡ zeros w h
zeros_filled w h f all =
    ap (λ (values : List ℤ). record { width = w; height = h; values = values })
    (ext_get_or (pos 0) (filled w h f) (replicate (w * h) (pos 0)) (length-filled w h f ∙ sym (length-replicate (w * h) (pos 0))) (λ i l. all i ∙ sym (replicated (w * h) i)))

residual_zeros : (t : Transform) (kind : Kind) (bands : List CodedBand) (w h : ℕ)
    → ((counts : ℕ × ℕ) (k : ℕ) → ReadsZeros (restored_among kind counts (slice_get bands k)).values) → residual t kind bands w h ≡ zeros w h
residual_zeros t kind bands w h e =
    let last = after_levels t kind bands t.depth in
    let all : ReadsZeros (filled w h (table_at last)) = filled_zeros w h (table_at last) (λ x y. levels_zero t kind bands t.depth e (y * last.width + x)) in
    ap (λ (vs : List ℤ). record { width = w; height = h; values = vs })
    (ext_get_or (pos 0) (filled w h (table_at last)) (replicate (w * h) (pos 0)) (length-filled w h (table_at last) ∙ sym (length-replicate (w * h) (pos 0))) (λ i l. all i ∙ sym (replicated (w * h) i)))

-- the residual of bands of zeros
pub zeros_stand : ZerosStandForZeros
zeros_stand t bands w h e = residual_zeros t Inter bands w h (λ counts k. bands_zero counts bands k e)

-- and that of both kinds of pictures
pub zeros_stand_in : (t : Transform) (kind : Kind) (bands : List CodedBand) (w h : ℕ) → HaveZeros bands → residual t kind bands w h ≡ zeros w h
zeros_stand_in t kind bands w h e = residual_zeros t kind bands w h (λ counts k. among_zero kind counts (slice_get bands k) (e k))

pub zeros_bound : (w h : ℕ) → All (λ v. unsigned_abs v ≤ 2 ^ 108) (zeros w h).values
zeros_bound w h k d l =
    let e = read_zeros (replicate (w * h) (pos 0)) (replicated (w * h)) k d l in
    rw e (omega arith)

-- ---- planes of zeros

-- rows of one are one
pub zeros_between : (from to w h : ℕ) → rows_between from to (zeros w h) ≡ zeros w (to - from)
zeros_between from to w h =
    let f = λ (x y : ℕ). table_at (zeros w h) x (from + y) in
    zeros_filled w (to - from) f (filled_zeros w (to - from) f (λ x y. replicated (w * h) ((from + y) * w + x)))

-- one is clipped to itself
clipped_zeros : (n : ℕ) → map clip (replicate n (pos 0)) ≡ replicate n (pos 0)
clipped_zeros zero = refl
clipped_zeros (suc n) = ap (λ (xs : List ℤ). pos 0 ∷ xs) (clipped_zeros n)

pub zeros_clipped : (w h : ℕ) → clipped (zeros w h) ≡ zeros w h
zeros_clipped w h = ap (λ (values : List ℤ). record { width = w; height = h; values = values }) (clipped_zeros (w * h))

-- with what is predicted it is just that
added_zero : (xs : List ℤ) → map (λ (v : ℤ). pos 0 +ℤ v) xs ≡ xs
added_zero [] = refl
added_zero (x ∷ xs) = ap₂ (λ (v : ℤ) (vs : List ℤ). v ∷ vs) (+ℤ_idl x) (added_zero xs)

summed_zeros : (n : ℕ) (xs : List ℤ) → length xs ≡ n → summed_with (replicate n (pos 0)) xs ≡ xs
summed_zeros n xs is = zip2_splat_left (λ (v other : ℤ). v +ℤ other) (pos 0) n xs is ∙ added_zero xs

pub zeros_summed : (w h : ℕ) (predicted : List ℤ) → length predicted ≡ w * h
    → with_prediction (zeros w h) predicted ≡ record { width = w; height = h; values = predicted }
zeros_summed w h predicted is = ap (λ (values : List ℤ). record { width = w; height = h; values = values }) (summed_zeros (w * h) predicted is)

-- the samples of one are what is predicted, clipped
pub predicted_alone : (w h : ℕ) (t : Table) (predicted samples : List ℤ) → t ≡ zeros w h → samples ≡ map clip predicted → length predicted ≡ w * h
    → with_values t samples ≡ clipped (with_prediction (zeros w h) predicted)
predicted_alone w h t predicted samples plane is len =
    let long : length samples ≡ length (zeros w h).values = ap length is ∙ length-map predicted clip ∙ len ∙ sym (length-replicate (w * h) (pos 0)) in
    ap (λ (x : Table). with_values x samples) plane ∙ lent_is (zeros w h) samples (map clip predicted) long is
    ∙ sym (ap clipped (zeros_summed w h predicted len))
