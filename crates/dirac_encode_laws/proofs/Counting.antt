-- The counts of codeblocks.
use Rattle.std.proofs.Common.{◌≡◌, ℕ, zero, suc, ◌+◌, ◌<◌, ◌≤◌, if◌then◌else◌, Bool, List, [], ◌∷◌, ◌++◌, length, refl, sym, ap, ◌∙◌, subst, arith, Some, inl, inr, length-append, eq-eqb, ◌==◌, true, false}
use Rattle.std.specs.Prelude.{slice_get, min, Option}
use Rattle.std.specs.List.{AllByRecursion}
use Rattle.std.proofs.lemmas.Bool.{cases_lt, cases_eq, ne_eqb}
use Rattle.dirac_types.specs.Sizes.{picture_height}
use Rattle.dirac_types.specs.declared.settings.Settings.{Settings}
use Rattle.dirac_header.specs.Transform.{band_length}
use Rattle.dirac_header.specs.Written as written
use Rattle.dirac_picture.specs.Bands.{counts_among}
use Rattle.dirac_picture.specs.Fits as fits
use Rattle.dirac_picture.proofs.Lengths.{band_some}
use Rattle.dirac_analysis.proofs.Undone.{front_get, back_get}
use Rattle.dirac_encode_laws.specs.Coded.{count_of, counts_below, transform_of}
use Rattle.dirac_encode_laws.specs.Codable.{IsCodable}
use Rattle.dirac_sequence.proofs.Sizes.{size_of_pictures}

pub length-counts_below : (t : Settings) (n : ℕ) → length (counts_below t n) ≡ n
unfolding counts_below
length-counts_below t zero = refl
length-counts_below t (suc n) =
    omega (arith, length-append (counts_below t n) ((count_of t.codeblocks t.width t.depth n, count_of t.codeblocks (picture_height t) t.depth n) ∷ []), length-counts_below t n)

-- one level more
pub count_more : (t : Settings) (n m : ℕ) → m ≡ n + 1 → counts_below t m ≡ counts_below t n ++ (count_of t.codeblocks t.width t.depth n, count_of t.codeblocks (picture_height t) t.depth n) ∷ []
unfolding counts_below
count_more t n m e =
    let next : m ≡ suc n = omega arith in
    ap (counts_below t) next

-- the counts of one level
pub pair_of : Settings → ℕ → ℕ × ℕ
pair_of t level = (count_of t.codeblocks t.width t.depth level, count_of t.codeblocks (picture_height t) t.depth level)

pub counts_get : (t : Settings) (n level : ℕ) → level < n → slice_get (counts_below t n) level ≡ Some (pair_of t level)
unfolding counts_below pair_of
counts_get t zero level l = absurd (omega arith)
counts_get t (suc n) level l = elim (cases_lt level n) [
  | inl before ↦ front_get (counts_below t n) (pair_of t n ∷ []) level (omega (arith, length-counts_below t n)) ∙ counts_get t n level before
  | inr last ↦
      let same : n ≡ level = omega arith in
      back_get (counts_below t n) (pair_of t n ∷ []) 0 level (omega (arith, length-counts_below t n)) ∙ ap (λ k. Some (pair_of t k)) same
]

min_fits : (c n : ℕ) → 1 ≤ c → 1 ≤ n → fits.IsCount (min c n) n
min_fits c n some more = (omega arith, omega arith)

-- a count is from 1 to the bands' columns or rows
count_fits : (codeblocks size depth level : ℕ) → 1 ≤ codeblocks → 1 ≤ size → 1 ≤ depth → level ≤ depth → fits.IsCount (count_of codeblocks size depth level) (band_length size depth level)
count_fits codeblocks size depth level some wide deep low =
    let bands = band_some size depth level wide deep low in
    elim (cases_eq level 0) [
      | inl lowest ↦ rw (eq-eqb level 0 lowest) (omega arith, subst (λ k. 1 ≤ band_length size depth k) lowest bands)
      | inr above ↦
          let n = band_length size depth level in
          subst (λ (b : Bool). fits.IsCount (if b then 1 else min codeblocks n) n) (sym (ne_eqb level 0 above)) (min_fits codeblocks n some bands)
    ]

all_push : {X : Type 0} (P : X → Type 0) (xs : List X) (x : X) → AllByRecursion P xs → P x → AllByRecursion P (xs ++ x ∷ [])
all_push P [] x all one = (one, tt)
all_push P (y ∷ xs) x all one = (all.0, all_push P xs x all.1 one)

fit_push : (width height depth level : ℕ) (xs : List (ℕ × ℕ)) (c : ℕ × ℕ) (at : ℕ) → at ≡ level + length xs → written.FitFrom width height depth level xs → c.0 ≤ band_length width depth at → c.1 ≤ band_length height depth at
    → written.FitFrom width height depth level (xs ++ c ∷ [])
fit_push width height depth level [] c at e fit a b =
    let here : at ≡ level = omega arith in
    (subst (λ k. c.0 ≤ band_length width depth k) here a, subst (λ k. c.1 ≤ band_length height depth k) here b, tt)
fit_push width height depth level (x ∷ xs) c at e fit a b = (fit.0, fit.1, fit_push width height depth (level + 1) xs c at (omega arith) fit.2 a b)

all_some : (t : Settings) (n : ℕ) → IsCodable t → n ≤ t.depth + 1 → AllByRecursion (λ c. (1 ≤ c.0) × (1 ≤ c.1)) (counts_below t n)
unfolding counts_below
all_some t zero is few = tt
all_some t (suc n) is few =
    let size = size_of_pictures t is.sequence in
    let a = count_fits t.codeblocks t.width t.depth n is.codeblocks size.0 is.depth.0 (omega arith) in
    let b = count_fits t.codeblocks (picture_height t) t.depth n is.codeblocks size.2 is.depth.0 (omega arith) in
    all_push (λ c. (1 ≤ c.0) × (1 ≤ c.1)) (counts_below t n) (count_of t.codeblocks t.width t.depth n, count_of t.codeblocks (picture_height t) t.depth n) (all_some t n is (omega arith)) (a.0, b.0)

all_fit : (t : Settings) (n : ℕ) → IsCodable t → n ≤ t.depth + 1 → written.FitFrom t.width (picture_height t) t.depth 0 (counts_below t n)
unfolding counts_below
all_fit t zero is few = tt
all_fit t (suc n) is few =
    let size = size_of_pictures t is.sequence in
    let a = count_fits t.codeblocks t.width t.depth n is.codeblocks size.0 is.depth.0 (omega arith) in
    let b = count_fits t.codeblocks (picture_height t) t.depth n is.codeblocks size.2 is.depth.0 (omega arith) in
    fit_push t.width (picture_height t) t.depth 0 (counts_below t n) (count_of t.codeblocks t.width t.depth n, count_of t.codeblocks (picture_height t) t.depth n) n (omega (arith, length-counts_below t n)) (all_fit t n is (omega arith)) a.1 b.1

-- the codeblock mode is 0 or 1
mode_few : (finer : ℕ) → (if finer == 0 then 0 else 1) ≤ 1
mode_few finer = by_test (finer == 0)
  where
    by_test : (none : Bool) → (if none then 0 else 1) ≤ 1
    by_test true = omega arith
    by_test false = omega arith

pub transform_written : (t : Settings) → IsCodable t → written.IsWritableTransform (transform_of t)
transform_written t is = record {
  wavelet = is.wavelet;
  at_least_1 = is.depth.0;
  at_most_5 = omega (arith, is.depth.1);
  levels = length-counts_below t (t.depth + 1);
  counts = all_some t (t.depth + 1) is (omega arith);
  mode = mode_few t.finer;
}

pub counts_fit : (t : Settings) → IsCodable t → written.FitFrom t.width (picture_height t) t.depth 0 (counts_below t (t.depth + 1))
counts_fit t is = all_fit t (t.depth + 1) is (omega arith)

pub transform_lawful : (t : Settings) → IsCodable t → fits.IsTransform t.width (picture_height t) (transform_of t)
unfolding pair_of
transform_lawful t is =
    let size = size_of_pictures t is.sequence in
    let there : (level : ℕ) → level ≤ t.depth → slice_get (counts_below t (t.depth + 1)) level ≡ Some (pair_of t level) = λ level low. counts_get t (t.depth + 1) level (omega arith) in
    record {
      wavelet = is.wavelet;
      depth = (is.depth.0, omega (arith, is.depth.1));
      levels = length-counts_below t (t.depth + 1);
      mode = mode_few t.finer;
      across = λ level low. subst (λ (o : Option (ℕ × ℕ)). fits.IsCount (counts_among o).0 (band_length t.width t.depth level)) (sym (there level low)) (count_fits t.codeblocks t.width t.depth level is.codeblocks size.0 is.depth.0 low);
      down = λ level low. subst (λ (o : Option (ℕ × ℕ)). fits.IsCount (counts_among o).1 (band_length (picture_height t) t.depth level)) (sym (there level low)) (count_fits t.codeblocks (picture_height t) t.depth level is.codeblocks size.2 is.depth.0 low);
    }
