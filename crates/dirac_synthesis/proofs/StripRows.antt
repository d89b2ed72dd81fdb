-- Samples of a plane that are made row by row.
use Rattle.std.proofs.Common.{◌≡◌, ℕ, ℤ, pos, ◌+◌, ◌-◌, ◌*◌, ◌<◌, ◌≤◌, ◌+ℤ◌, List, length, map, get_or, drop, slice_range, arith, refl, ap, sym, ◌∙◌, length-drop}
use Rattle.std.proofs.lemmas.List.{length-map, length-take-le, get_or-drop, get_or-map, get_or-take}
use Rattle.std.proofs.lemmas.Nat.{mul-add-lt, row_fits}
use Rattle.std.proofs.lemmas.Simd.{length-zip2, get_or-zip2}
use Rattle.dirac_common.specs.Samples.{clip}
use Rattle.dirac_common.specs.Table.{Table, table_at, table_of}
use Rattle.dirac_common.proofs.Rows.{rows_all}
use Rattle.dirac_synthesis.specs.Residual.{clipped, summed_with, with_prediction}
use Rattle.dirac_synthesis.specs.declared.strips.Others.{Others}
use Rattle.dirac_synthesis.specs.declared.strips.Others.TheVariants.{Nothing, Predicted}
use Rattle.dirac_synthesis.specs.Strips.{AreAsMany, AreEnough, sample_at, with_others}

-- a sum that is clipped
pub sum_at : (xs ys : List ℤ) (k : ℕ) → k < length xs → length ys ≡ length xs → get_or (map clip (summed_with xs ys)) k (pos 0) ≡ clip (get_or xs k (pos 0) +ℤ get_or ys k (pos 0))
sum_at xs ys k l e =
    let len : length (summed_with xs ys) ≡ length xs = length-zip2 (λ v w. v +ℤ w) xs ys (sym e) in
    get_or-map clip (summed_with xs ys) k (pos 0) (pos 0) (omega (arith, l, len))
    ∙ ap clip (get_or-zip2 (λ v w. v +ℤ w) xs ys k (pos 0) (pos 0) (pos 0) l (omega (arith, l, e)))

-- clipped values, told by column and row
pub clips_told : (t : Table) → 0 < t.width → length t.values ≡ t.width * t.height → clipped t ≡ table_of t.width t.height (λ x y. clip (table_at t x y))
clips_told t some whole =
    rows_all (λ x y. clip (table_at t x y)) (clipped t) t.width t.height t.height refl refl some (omega arith)
    (record {
      len = length-map t.values clip ∙ whole;
      done = λ x y l k. get_or-map clip t.values (y * t.width + x) (pos 0) (pos 0) (omega (arith, whole, mul-add-lt y t.width x t.height k l));
    })

-- and clipped sums
abbrev pub sum_in : Table → List ℤ → ℕ → ℕ → ℤ
sum_in t others x y = clip (table_at t x y +ℤ get_or others (y * t.width + x) (pos 0))

pub sums_told : (t : Table) (others : List ℤ) → 0 < t.width → length t.values ≡ t.width * t.height → length others ≡ t.width * t.height
    → clipped (with_prediction t others) ≡ table_of t.width t.height (sum_in t others)
sums_told t others some whole fits =
    rows_all (sum_in t others) (clipped (with_prediction t others)) t.width t.height t.height refl refl some (omega arith)
    (record {
      len = length-map (summed_with t.values others) clip ∙ length-zip2 (λ v w. v +ℤ w) t.values others (whole ∙ sym fits) ∙ whole;
      done = λ x y l k. sum_at t.values others (y * t.width + x) (omega (arith, whole, mul-add-lt y t.width x t.height k l)) (fits ∙ sym whole);
    })

-- samples, told by column and row
pub samples_told : (o : Others) (t : Table) → 0 < t.width → length t.values ≡ t.width * t.height → AreAsMany o (t.width * t.height) → clipped (with_others o t) ≡ table_of t.width t.height (sample_at o t)
samples_told Nothing t some whole fits = clips_told t some whole
samples_told (Predicted values) t some whole fits = sums_told t values.now some whole fits

-- as many values as a plane has are enough for its rows
pub enough_others : (o : Others) (w h y : ℕ) → AreAsMany o (w * h) → y < h → AreEnough o (y * w + w)
enough_others Nothing w h y fits l = tt
enough_others (Predicted values) w h y fits l = omega (arith, fits, row_fits y w h w l (omega arith))

-- a value of a line that is clipped
pub clipped_line : (x : ℕ) (line ws : List ℤ) → ws ≡ map clip line → x < length line → get_or ws x (pos 0) ≡ clip (get_or line x (pos 0))
clipped_line x line ws ew l = ap (λ zs. get_or zs x (pos 0)) ew ∙ get_or-map clip line x (pos 0) (pos 0) l

-- a value of a line that is summed with what stands in a list from one place on, and clipped
pub summed_line : (at x : ℕ) (predicted line ws : List ℤ) → at + length line ≤ length predicted → ws ≡ map clip (summed_with line (slice_range predicted at (at + length line))) → x < length line
    → get_or ws x (pos 0) ≡ clip (get_or line x (pos 0) +ℤ get_or predicted (at + x) (pos 0))
summed_line at x predicted line ws inside ew l =
    let size : at + length line - at ≡ length line = omega arith in
    let behind : length (drop at predicted) ≡ length predicted - at = length-drop at predicted in
    let others : length (slice_range predicted at (at + length line)) ≡ length line = length-take-le (at + length line - at) (drop at predicted) (omega (arith, size, behind, inside)) ∙ size in
    ap (λ zs. get_or zs x (pos 0)) ew
    ∙ sum_at line (slice_range predicted at (at + length line)) x l others
    ∙ ap (λ v. clip (get_or line x (pos 0) +ℤ v))
    (get_or-take (at + length line - at) (drop at predicted) x (pos 0) (omega (arith, l, size)) ∙ get_or-drop at predicted x (pos 0))
