-- Rows of samples that lie a whole sample apart.
use Rattle.std.proofs.Common.{◌≡◌, ℕ, ℤ, pos, ◌+◌, ◌-◌, ◌*◌, ◌/◌, ◌%◌, ◌^◌, ◌<◌, ◌≤◌, ◌+ℤ◌, ◌*ℤ◌, List, length, get_or, arith, refl, inl, inr, ap, ap₂, sym, subst, ◌∙◌, eq-eqb}
use Rattle.std.specs.List.{All}
use Rattle.std.proofs.lemmas.Bool.{cases_eq, ne_eqb}
use Rattle.std.proofs.lemmas.Int.{ints}
use Rattle.std.proofs.lemmas.Nat.{pow_pos}
use Rattle.dirac_common.specs.Table.{Table, clamped_at}
use Rattle.dirac_upconvert.specs.HalfSamples.{IsSample}
use Rattle.dirac_upconvert.specs.declared.rows.Position.{Position}
use Rattle.dirac_upconvert.specs.Positions.{AreSamplesFrom, sample_from}
use Rattle.dirac_upconvert.specs.SubSamples.{IsRest, IsWithin, Up, bilinear, part_sample, place_at, rest_at, rounded, sub_sample}
use Rattle.dirac_upconvert.proofs.Halves.{all_samples, clamped_sample}
use Rattle.dirac_upconvert.proofs.PartRows.{four_at_place, part_more, place_more, rest_more}
use Rattle.dirac_upconvert.proofs.Mixing.{four_products, mixed_within, remainder_is, remainder_rest, rounded_sample, sample_within}

-- a sample at a position of a table of samples
part_is_sample : (t : Table) (bits : ℕ) (x y : ℤ) → bits ≤ 2 → All IsSample t.values → IsSample (part_sample t bits x y)
unfolding part_sample
part_is_sample t bits x y few h =
    let right : IsRest bits (rest_at x bits) = subst (λ (v : ℤ). IsRest bits v) (remainder_is x (2 ^ bits) (pow_pos bits)) (remainder_rest x bits) in
    let below : IsRest bits (rest_at y bits) = subst (λ (v : ℤ). IsRest bits v) (remainder_is y (2 ^ bits) (pow_pos bits)) (remainder_rest y bits) in
    let sample : (i j : ℤ) → IsWithin 1 (clamped_at t i j) = λ i j. sample_within 1 (clamped_at t i j) (omega arith) (clamped_sample t (clamped_at t i j) i j h refl) in
    let across = place_at x bits in
    let down = place_at y bits in
    let above = mixed_within bits 1 (rest_at x bits) (clamped_at t across down) (clamped_at t (across +ℤ pos 1) down) few right (sample across down) (sample (across +ℤ pos 1) down) in
    let under = mixed_within bits 1 (rest_at x bits) (clamped_at t across (down +ℤ pos 1)) (clamped_at t (across +ℤ pos 1) (down +ℤ pos 1)) few right (sample across (down +ℤ pos 1)) (sample (across +ℤ pos 1) (down +ℤ pos 1)) in
    let whole = mixed_within bits (2 ^ bits * 1) (rest_at y bits) _ _ few below above under in
    rounded_sample bits _ few
    (subst (λ (z : ℤ). IsWithin (2 ^ bits * (2 ^ bits * 1)) z)
    (four_products (2 ^ bits) (rest_at x bits) (rest_at y bits) (clamped_at t across down) (clamped_at t (across +ℤ pos 1) down) (clamped_at t across (down +ℤ pos 1)) (clamped_at t (across +ℤ pos 1) (down +ℤ pos 1)))
    whole)

pub sub_sample_is : (up : Up) (precision : ℕ) (x y : ℤ) → precision ≤ 3 → All IsSample up.table.values → IsSample (sub_sample up precision x y)
sub_sample_is up precision x y few h = elim (cases_eq precision 0) [
  | inl whole ↦ rw (eq-eqb precision 0 whole) (clamped_sample up.table (clamped_at up.table (pos 2 *ℤ x) (pos 2 *ℤ y)) (pos 2 *ℤ x) (pos 2 *ℤ y) h refl)
  | inr part ↦ rw (ne_eqb precision 0 part) (part_is_sample up.table (precision - 1) x y (omega arith) h)
]

-- all its values are samples
pub row_samples : (up : Up) (precision : ℕ) (x y : ℤ) (out : List ℤ) → precision ≤ 3 → All IsSample up.table.values → ((k : ℕ) → k < length out → get_or out k (pos 0) ≡ sub_sample up precision (x +ℤ pos (2 ^ precision * k)) y)
    → All IsSample out
row_samples up precision x y out few h e =
    all_samples out (λ k l. rw (e k l) (sub_sample_is up precision (x +ℤ pos (2 ^ precision * k)) y few h))

-- the sample behind a place that is so many places and rows further on
pub sample_of_place : (up : Up) (precision : ℕ) (x y : ℤ) (j k : ℕ) → precision ≡ 0
    → rounded (2 * 0) (bilinear up.table (2 ^ 0) (pos 2 *ℤ x +ℤ pos (2 * k)) (pos 2 *ℤ y +ℤ pos (2 * j)) (pos 0) (pos 0)) ≡ sub_sample up precision (x +ℤ pos (2 ^ precision * k)) (y +ℤ pos (2 ^ precision * j))
sample_of_place up precision x y j k e =
    subst (λ (q : ℕ). rounded (2 * 0) (bilinear up.table (2 ^ 0) (pos 2 *ℤ x +ℤ pos (2 * k)) (pos 2 *ℤ y +ℤ pos (2 * j)) (pos 0) (pos 0)) ≡ sub_sample up q (x +ℤ pos (2 ^ q * k)) (y +ℤ pos (2 ^ q * j))) (sym e)
    (four_at_place 0 (clamped_at up.table (pos 2 *ℤ x +ℤ pos (2 * k)) (pos 2 *ℤ y +ℤ pos (2 * j))) (clamped_at up.table ((pos 2 *ℤ x +ℤ pos (2 * k)) +ℤ pos 1) (pos 2 *ℤ y +ℤ pos (2 * j)))
    (clamped_at up.table (pos 2 *ℤ x +ℤ pos (2 * k)) ((pos 2 *ℤ y +ℤ pos (2 * j)) +ℤ pos 1)) (clamped_at up.table ((pos 2 *ℤ x +ℤ pos (2 * k)) +ℤ pos 1) ((pos 2 *ℤ y +ℤ pos (2 * j)) +ℤ pos 1)) (omega arith)
    ∙ ap₂ (λ (p q : ℤ). clamped_at up.table p q) (twice_more x k) (twice_more y j))
  where
    twice_more : (p : ℤ) (n : ℕ) → pos 2 *ℤ p +ℤ pos (2 * n) ≡ pos 2 *ℤ (p +ℤ pos (2 ^ 0 * n))
    twice_more p n = omega (arith, ints)

pub sample_of_part : (up : Up) (precision bits : ℕ) (x y : ℤ) (j k : ℕ) → bits ≤ 2 → precision ≡ bits + 1
    → rounded (2 * bits) (bilinear up.table (2 ^ bits) (place_at x bits +ℤ pos (2 * k)) (place_at y bits +ℤ pos (2 * j)) (rest_at x bits) (rest_at y bits)) ≡ sub_sample up precision (x +ℤ pos (2 ^ precision * k)) (y +ℤ pos (2 ^ precision * j))
sample_of_part up precision bits x y j k small e =
    let less : precision - 1 ≡ bits = omega arith in
    let z : ℤ = y +ℤ pos (2 ^ precision * j) in
    let below : z ≡ y +ℤ pos (2 ^ (bits + 1) * j) = ap (λ q. y +ℤ pos (2 ^ q * j)) e in
    rw (ne_eqb precision 0 (omega arith), less)
    (ap (λ p. rounded (2 * bits) (bilinear up.table (2 ^ bits) (place_at x bits +ℤ pos (2 * k)) p (rest_at x bits) (rest_at y bits))) (sym (place_more y z bits j small below))
    ∙ ap (λ r. rounded (2 * bits) (bilinear up.table (2 ^ bits) (place_at x bits +ℤ pos (2 * k)) (place_at z bits) (rest_at x bits) r)) (sym (rest_more y z bits j small below))
    ∙ part_more up.table bits k x z (x +ℤ pos (2 ^ precision * k)) small (ap (λ q. x +ℤ pos (2 ^ q * k)) e))

-- the samples from a position on, of which its places and its rests are told
pub from_place : (up : Up) (precision : ℕ) (x y : ℤ) (p : Position) (j k : ℕ) → precision ≡ 0 → p.rests.bits ≡ 0 → p.rests.right ≡ pos 0 → p.rests.below ≡ pos 0 → p.across ≡ pos 2 *ℤ x → p.down ≡ pos 2 *ℤ y
    → sample_from up.table p k j ≡ sub_sample up precision (x +ℤ pos (2 ^ precision * k)) (y +ℤ pos (2 ^ precision * j))
from_place up precision x y p j k e bits right below across down = rw (bits, right, below, across, down) (sample_of_place up precision x y j k e)

pub from_part : (up : Up) (precision bits : ℕ) (x y : ℤ) (p : Position) (j k : ℕ) → bits ≤ 2 → precision ≡ bits + 1 → p.rests.bits ≡ bits → p.rests.right ≡ rest_at x bits → p.rests.below ≡ rest_at y bits → p.across ≡ place_at x bits → p.down ≡ place_at y bits
    → sample_from up.table p k j ≡ sub_sample up precision (x +ℤ pos (2 ^ precision * k)) (y +ℤ pos (2 ^ precision * j))
from_part up precision bits x y p j k small e eb right below across down = rw (eb, right, below, across, down) (sample_of_part up precision bits x y j k small e)

pub rows_samples : (up : Up) (precision : ℕ) (x y : ℤ) (width : ℕ) (out : List ℤ) → precision ≤ 3 → All IsSample up.table.values
    → ((n : ℕ) → n < length out → get_or out n (pos 0) ≡ sub_sample up precision (x +ℤ pos (2 ^ precision * (n % width))) (y +ℤ pos (2 ^ precision * (n / width)))) → All IsSample out
rows_samples up precision x y width out few h e =
    all_samples out (λ n l. rw (e n l) (sub_sample_is up precision (x +ℤ pos (2 ^ precision * (n % width))) (y +ℤ pos (2 ^ precision * (n / width))) few h))

-- a row of them, from what is told of rows
pub row_from : (up : Up) (precision : ℕ) (x y : ℤ) (p : Position) (out : List ℤ) → AreSamplesFrom up.table p out
    → ((j k : ℕ) → sample_from up.table p k j ≡ sub_sample up precision (x +ℤ pos (2 ^ precision * k)) (y +ℤ pos (2 ^ precision * j)))
    → (k : ℕ) → k < length out → get_or out k (pos 0) ≡ sub_sample up precision (x +ℤ pos (2 ^ precision * k)) y
row_from up precision x y p out h told k l =
    h k l
    ∙ ap (λ z. rounded (2 * p.rests.bits) (bilinear up.table (2 ^ p.rests.bits) (p.across +ℤ pos (2 * k)) z p.rests.right p.rests.below)) (sym (none_more p.down 2))
    ∙ told 0 k ∙ ap (sub_sample up precision (x +ℤ pos (2 ^ precision * k))) (none_more y (2 ^ precision))
  where
    none_more : (z : ℤ) (n : ℕ) → z +ℤ pos (n * 0) ≡ z
    none_more z n = omega (arith, ints)
