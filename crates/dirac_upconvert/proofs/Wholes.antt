-- Half samples that are worked out one by one, and rows of whole samples.
use Rattle.std.proofs.Common.{◌≡◌, ◌≢◌, ℕ, ℤ, pos, ◌+◌, ◌-◌, ◌*◌, ◌/◌, ◌%◌, ◌^◌, ◌<◌, ◌≤◌, ◌+ℤ◌, List, length, get_or, arith, refl, ap, ap₂, sym, subst, ◌∙◌, eq-eqb, min, max, Some}
use Rattle.std.proofs.lemmas.Bool.{ne_eqb}
use Rattle.std.proofs.lemmas.Int.{ints}
use Rattle.std.proofs.lemmas.List.{ext_get_or}
use Rattle.std.proofs.lemmas.Nat.{div-mul-add, mod-mul-add}
use Rattle.dirac_common.specs.Table.{Table, clamped_at, clamped_to, table_at}
use Rattle.dirac_common.proofs.Rows.{filled_at}
use Rattle.dirac_upconvert.specs.declared.rows.Rests.{Rests}
use Rattle.dirac_upconvert.specs.HalfSamples.{doubled_at, half, half_at, half_between}
use Rattle.dirac_upconvert.specs.SubSamples.{PutFrom, Up, bilinear, part_sample, place_at, rest_at, rounded, sub_sample}
use Rattle.dirac_upconvert.proofs.Halves.{whole_samples}

-- the half sample at an odd place, from the eight round it
pub half_told : (f : ℕ → ℤ) (last p : ℕ) (a3 a2 a1 a0 b0 b1 b2 b3 : ℤ) → p % 2 ≢ 0 → a3 ≡ f (p / 2 - 3) → a2 ≡ f (p / 2 - 2) → a1 ≡ f (p / 2 - 1) → a0 ≡ f (p / 2)
    → b0 ≡ f (min (p / 2 + 1) last) → b1 ≡ f (min (p / 2 + 2) last) → b2 ≡ f (min (p / 2 + 3) last) → b3 ≡ f (min (p / 2 + 4) last) → half_between a3 a2 a1 a0 b0 b1 b2 b3 ≡ doubled_at f last p
half_told f last p a3 a2 a1 a0 b0 b1 b2 b3 odd e3 e2 e1 e0 f0 f1 f2 f3 = rw (ne_eqb (p % 2) 0 odd, e3, e2, e1, e0, f0, f1, f2, f3) refl

-- a place that is nearest to a position lies inside
nearest_inside : (x : ℤ) (size p : ℕ) → 1 ≤ size → p ≡ clamped_to x size → p < size
nearest_inside x size p some e = grind (arith, ints)

-- the sample or half sample that is nearest to a position
pub nearest_half : (t : Table) (x y : ℤ) (p q : ℕ) → 1 ≤ t.width → 1 ≤ t.height → p ≡ clamped_to x (2 * t.width - 1) → q ≡ clamped_to y (2 * t.height - 1) → half_at t p q ≡ clamped_at (half t) x y
nearest_half t x y p q across down ep eq =
    let column = nearest_inside x (2 * t.width - 1) p (omega arith) ep in
    let row = nearest_inside y (2 * t.height - 1) q (omega arith) eq in
    sym (filled_at (half_at t) (2 * t.width - 1) (2 * t.height - 1) p q column row) ∙ ap₂ (λ i j. table_at (half t) i j) ep eq

-- rows of so many samples from a position on, one behind another
abbrev pub rows_from : Table → ℤ → ℤ → ℕ → ℕ → ℤ
rows_from t x y width n = clamped_at t (x +ℤ pos (n % width)) (y +ℤ pos (n / width))

pub rows_from_at : (t : Table) (x y : ℤ) (width j k : ℕ) → k < width → rows_from t x y width (j * width + k) ≡ clamped_at t (x +ℤ pos k) (y +ℤ pos j)
rows_from_at t x y width j k l =
    ap (λ a. clamped_at t (x +ℤ pos a) (y +ℤ pos ((j * width + k) / width))) (mod-mul-add j width k l)
    ∙ ap (λ b. clamped_at t (x +ℤ pos k) (y +ℤ pos b)) (div-mul-add j width k l)

-- a list of which all is put is what was put
pub all_put : (before after xs : List ℤ) → PutFrom 0 (length xs) (λ k. get_or xs k (pos 0)) before after → length after ≡ length xs → after ≡ xs
all_put before after xs p len = ext_get_or (pos 0) after xs len (λ k l. ap (λ i. get_or after i (pos 0)) (none_before k) ∙ p.value k (omega (arith, l, len)))
  where
    none_before : (k : ℕ) → k ≡ 0 + k
    none_before k = omega arith

-- a table, of which all is told
abbrev pub told : ℕ → ℕ → List ℤ → Table
told w h xs = record { width = w; height = h; values = xs }

pub table_told : (t : Table) (w h : ℕ) (xs : List ℤ) → w ≡ t.width → h ≡ t.height → xs ≡ t.values → told w h xs ≡ t
table_told t w h xs ew eh e = ap (λ v. told v h xs) ew ∙ ap (λ v. told t.width v xs) eh ∙ ap (told t.width t.height) e

-- at precision 0 the samples are those of the plane
pub whole_sub : (u : Up) (t : Table) (precision : ℕ) (x y : ℤ) → 1 ≤ t.width → 1 ≤ t.height → u.table ≡ half t → precision ≡ 0 → clamped_at t x y ≡ sub_sample u precision x y
whole_sub u t precision x y across down e none = rw (eq-eqb precision 0 none, e) (sym (whole_samples t across down x y))

pub whole_rows_sub : (u : Up) (t : Table) (precision : ℕ) (x y : ℤ) (a b : ℕ) → 1 ≤ t.width → 1 ≤ t.height → u.table ≡ half t → precision ≡ 0
    → clamped_at t (x +ℤ pos a) (y +ℤ pos b) ≡ sub_sample u precision (x +ℤ pos (2 ^ precision * a)) (y +ℤ pos (2 ^ precision * b))
whole_rows_sub u t precision x y a b across down e none =
    ap₂ (clamped_at t) (step x a) (step y b) ∙ whole_sub u t precision (x +ℤ pos (2 ^ precision * a)) (y +ℤ pos (2 ^ precision * b)) across down e none
  where
    step : (z : ℤ) (n : ℕ) → z +ℤ pos n ≡ z +ℤ pos (2 ^ precision * n)
    step z n = subst (λ q. z +ℤ pos n ≡ z +ℤ pos (2 ^ q * n)) (sym none) (omega (arith, ints))

-- at a greater one they lie behind places of the half samples
pub part_sub : (u : Up) (t : Table) (precision bits : ℕ) (x y : ℤ) (r : Rests) (a d : ℤ) → u.table ≡ t → precision ≡ bits + 1 → r.bits ≡ bits → r.right ≡ rest_at x bits → r.below ≡ rest_at y bits → a ≡ place_at x bits → d ≡ place_at y bits
    → rounded (2 * r.bits) (bilinear t (2 ^ r.bits) a d r.right r.below) ≡ sub_sample u precision x y
unfolding part_sample
part_sub u t precision bits x y r a d e more eb er es ea ed =
    let less : precision - 1 ≡ bits = omega arith in
    rw (ne_eqb precision 0 (omega arith), less, e, eb, er, es, ea, ed) refl

-- one row is rows of its length, of which there is one
pub one_row : (u : Up) (precision : ℕ) (x y : ℤ) (len width k : ℕ) → width ≡ max len 1 → k < len
    → sub_sample u precision (x +ℤ pos (2 ^ precision * (k % width))) (y +ℤ pos (2 ^ precision * (k / width))) ≡ sub_sample u precision (x +ℤ pos (2 ^ precision * k)) y
one_row u precision x y len width k e l =
    let wide : k < width = omega (arith, e) in
    let only : k ≡ 0 * width + k = omega arith in
    let column : k % width ≡ k = ap (λ n. n % width) only ∙ mod-mul-add 0 width k wide in
    let row : k / width ≡ 0 = ap (λ n. n / width) only ∙ div-mul-add 0 width k wide in
    ap₂ (λ a b. sub_sample u precision (x +ℤ pos (2 ^ precision * a)) (y +ℤ pos (2 ^ precision * b))) column row
    ∙ ap (sub_sample u precision (x +ℤ pos (2 ^ precision * k))) (none_more y (2 ^ precision))
  where
    none_more : (z : ℤ) (n : ℕ) → z +ℤ pos (n * 0) ≡ z
    none_more z n = omega (arith, ints)

pub lines_some : (a b : List ℤ) → Some a ≡ Some b → a ≡ b
lines_some a b is = cc
