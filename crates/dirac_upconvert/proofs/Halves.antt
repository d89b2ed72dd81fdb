-- A plane and its half samples, row by row.
use Rattle.std.proofs.Common.{◌≡◌, ◌≢◌, ℕ, ℤ, pos, ◌+◌, ◌-◌, ◌*◌, ◌/◌, ◌%◌, ◌<◌, ◌≤◌, ◌*ℤ◌, List, length, get_or, arith, refl, inl, inr, ap, ◌∙◌, eq-eqb}
use Rattle.std.specs.List.{All}
use Rattle.std.proofs.lemmas.Int.{ints}
use Rattle.std.proofs.lemmas.List.{get_or_default, get_or_past}
use Rattle.std.proofs.lemmas.List.FromFn.{get_or-map-range_with_len, length-map-range_with_len}
use Rattle.std.proofs.lemmas.Bool.{cases_lt, ne_eqb}
use Rattle.dirac_common.specs.Table.{Table, table_at, clamped_to, clamped_at, filled}
use Rattle.dirac_upconvert.specs.HalfSamples.{IsSample, half_behind, doubled_at, row_doubled_at, half_at, half}
use Rattle.dirac_upconvert.specs.SubSamples.{IsUp, Up}
use Rattle.dirac_upconvert.proofs.Doubling.{at_even, doubled_same, doubled_sample}
use Rattle.dirac_common.proofs.Rows.{filled_at}

-- a value of samples is a sample; so is 0, which stands for those beyond
pub sample_at : (xs : List ℤ) → All IsSample xs → (k : ℕ) → IsSample (get_or xs k (pos 0))
sample_at xs h k = elim (cases_lt k (length xs)) [
  | inl inside ↦ h k (pos 0) inside
  | inr past ↦ rw (get_or_past xs k (pos 0) past) (record { least = omega (arith, ints); most = omega (arith, ints) })
]

pub clamped_sample : (t : Table) (v x y : ℤ) → All IsSample t.values → v ≡ clamped_at t x y → IsSample v
clamped_sample t v x y h e = rw e (sample_at t.values h (clamped_to y t.height * t.width + clamped_to x t.width))

-- a line is one of samples where each of its values is a sample
pub all_samples : (xs : List ℤ) → ((x : ℕ) → x < length xs → IsSample (get_or xs x (pos 0))) → All IsSample xs
all_samples xs h k d inside = rw (get_or_default xs k d (pos 0) inside) (h k inside)

-- a line of row y, or of the half samples behind it, is a line of the doubled rows
pub even_row : (t : Table) (y p : ℕ) (xs : List ℤ) → ((x : ℕ) → x < t.width → get_or xs x (pos 0) ≡ table_at t x (y / 2)) → y % 2 ≡ 0 → length xs ≡ t.width → p + 1 < 2 * t.width
    → doubled_at (λ k. get_or xs k (pos 0)) (length xs - 1) p ≡ half_at t p y
even_row t y p xs e rem len l =
    ap (λ n. doubled_at (λ k. get_or xs k (pos 0)) (n - 1) p) len
    ∙ doubled_same (λ k. get_or xs k (pos 0)) (λ i. row_doubled_at t i y) (t.width - 1) p
    (λ k h. rw (eq-eqb (y % 2) 0 rem) (e k (omega arith))) (omega arith)

pub odd_row : (t : Table) (y p : ℕ) (xs : List ℤ) → ((x : ℕ) → x < t.width → get_or xs x (pos 0) ≡ half_behind (λ j. table_at t x j) (t.height - 1) (y / 2)) → y % 2 ≢ 0 → length xs ≡ t.width → p + 1 < 2 * t.width
    → doubled_at (λ k. get_or xs k (pos 0)) (length xs - 1) p ≡ half_at t p y
odd_row t y p xs e rem len l =
    ap (λ n. doubled_at (λ k. get_or xs k (pos 0)) (n - 1) p) len
    ∙ doubled_same (λ k. get_or xs k (pos 0)) (λ i. row_doubled_at t i y) (t.width - 1) p
    (λ k h. rw (ne_eqb (y % 2) 0 rem) (e k (omega arith))) (omega arith)

-- all half samples of a plane of samples are samples
half_at_sample : (t : Table) (x y : ℕ) → All IsSample t.values → IsSample (half_at t x y)
half_at_sample t x y h =
    doubled_sample (λ i. row_doubled_at t i y) (t.width - 1) x
    (λ i. doubled_sample (λ j. table_at t i j) (t.height - 1) y (λ j. sample_at t.values h (j * t.width + i)))

pub half_samples : (t : Table) → All IsSample t.values → All IsSample (half t).values
unfolding filled
half_samples t h k d inside =
    let l : k < (2 * t.width - 1) * (2 * t.height - 1) =
    omega (arith, inside, length-map-range_with_len (λ p. half_at t (p % (2 * t.width - 1)) (p / (2 * t.width - 1))) 0 ((2 * t.width - 1) * (2 * t.height - 1))) in
    rw (get_or-map-range_with_len (λ p. half_at t (p % (2 * t.width - 1)) (p / (2 * t.width - 1))) 0 ((2 * t.width - 1) * (2 * t.height - 1)) k k d l (omega arith))
    (half_at_sample t (k % (2 * t.width - 1)) (k / (2 * t.width - 1)) h)

-- the upconverted plane of a table of samples
pub is_up : (t u : Table) (w h : ℕ) → u ≡ half t → w ≡ t.width → h ≡ t.height → (1 ≤ t.width) × (t.width ≤ 4096) → (1 ≤ t.height) × (t.height ≤ 4096) → All IsSample t.values → IsUp w h u
is_up t u w h e ew eh wide high all =
    rw (e, ew, eh) (record { some_across = wide.0; most_across = wide.1; some_down = high.0; most_down = high.1; across = refl; down = refl; samples = half_samples t all })

abbrev up : ℕ → ℕ → Table → Up
up w h t = record { width = w; height = h; table = t }

pub up_is : (t u : Table) (w h : ℕ) → u ≡ half t → w ≡ t.width → h ≡ t.height → up w h u ≡ up t.width t.height (half t)
up_is t u w h e ew eh = ap (λ v. up v h u) ew ∙ ap (λ v. up t.width v u) eh ∙ ap (up t.width t.height) e

-- twice a clamped place is the clamped place of twice the position
twice_clamped : (x : ℤ) (size : ℕ) → 1 ≤ size → clamped_to (pos 2 *ℤ x) (2 * size - 1) ≡ 2 * clamped_to x size
twice_clamped x size some = grind (arith, ints)

clamped_inside : (x : ℤ) (size : ℕ) → 1 ≤ size → clamped_to x size < size
clamped_inside x size some = grind (arith, ints)

-- whole samples stand at even columns of even rows
pub whole_samples : (t : Table) → 1 ≤ t.width → 1 ≤ t.height → (x y : ℤ) → clamped_at (half t) (pos 2 *ℤ x) (pos 2 *ℤ y) ≡ clamped_at t x y
whole_samples t across down x y =
    let column = clamped_inside x t.width across in
    let row = clamped_inside y t.height down in
    rw (twice_clamped x t.width across, twice_clamped y t.height down)
    (filled_at (half_at t) (2 * t.width - 1) (2 * t.height - 1) (2 * clamped_to x t.width) (2 * clamped_to y t.height) (omega arith) (omega arith)
    ∙ at_even (λ i. row_doubled_at t i (2 * clamped_to y t.height)) (t.width - 1) (clamped_to x t.width) (2 * clamped_to x t.width) refl
    ∙ at_even (λ j. table_at t (clamped_to x t.width) j) (t.height - 1) (clamped_to y t.height) (2 * clamped_to y t.height) refl)
