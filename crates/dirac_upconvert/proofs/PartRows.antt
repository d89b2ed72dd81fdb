-- Positions a whole sample apart, and the places before them.
use Rattle.std.proofs.Common.{◌≡◌, ℕ, ℤ, pos, negsuc, zero, suc, ◌+◌, ◌*◌, ◌^◌, ◌<◌, ◌≤◌, ◌+ℤ◌, ◌-ℤ◌, ◌*ℤ◌, List, length, get_or, set, arith, refl, inl, inr, ap, sym, subst, ◌∙◌}
use Rattle.std.proofs.lemmas.Int.{ints}
use Rattle.std.proofs.lemmas.Bool.{cases_eq}
use Rattle.std.proofs.lemmas.List.{get_or-set_same, get_or-set_other}
use Rattle.std.proofs.lemmas.Nat.{pow_pos}
use Rattle.std.proofs.Math.IntN.{zero-*ℤ, *ℤ-zero}
use lib.Signed.{shr_z}
use Rattle.dirac_common.specs.Table.{Table, clamped_at, clamped_to, table_at}
use Rattle.dirac_upconvert.specs.Phases.{place_in_row}
use Rattle.dirac_upconvert.specs.SubSamples.{AreAlternateSubSamples, AreAlternateSamples, IsRest, between_sides, bilinear, sum_of_four, part_sample, place_at, rest_at, rounded}
use Rattle.dirac_upconvert.proofs.Phased.{held_more}
use Rattle.dirac_upconvert.proofs.Mixing.{remainder_is, remainder_rest}

rest_is : (x : ℤ) (bits : ℕ) → IsRest bits (rest_at x bits)
rest_is x bits = subst (λ (v : ℤ). IsRest bits v) (remainder_is x (2 ^ bits) (pow_pos bits)) (remainder_rest x bits)

-- the place before a position as many whole samples on
pub place_more : (x y : ℤ) (bits k : ℕ) → bits ≤ 2 → y ≡ x +ℤ pos (2 ^ (bits + 1) * k) → place_at y bits ≡ place_at x bits +ℤ pos (2 * k)
place_more x y zero k few e = apart (place_at x 0) (place_at y 0) x y k (rest_is x 0) (rest_is y 0) e where
  apart : (p q a b : ℤ) (n : ℕ) → IsRest 0 (a -ℤ p *ℤ pos 1) → IsRest 0 (b -ℤ q *ℤ pos 1) → b ≡ a +ℤ pos (2 * n) → q ≡ p +ℤ pos (2 * n)
  apart p q a b n r s t = omega (arith, ints, r.least, r.most, s.least, s.most)
place_more x y (suc zero) k few e = apart (place_at x 1) (place_at y 1) x y k (rest_is x 1) (rest_is y 1) e where
  apart : (p q a b : ℤ) (n : ℕ) → IsRest 1 (a -ℤ p *ℤ pos 2) → IsRest 1 (b -ℤ q *ℤ pos 2) → b ≡ a +ℤ pos (4 * n) → q ≡ p +ℤ pos (2 * n)
  apart p q a b n r s t = omega (arith, ints, r.least, r.most, s.least, s.most)
place_more x y (suc (suc zero)) k few e = apart (place_at x 2) (place_at y 2) x y k (rest_is x 2) (rest_is y 2) e where
  apart : (p q a b : ℤ) (n : ℕ) → IsRest 2 (a -ℤ p *ℤ pos 4) → IsRest 2 (b -ℤ q *ℤ pos 4) → b ≡ a +ℤ pos (8 * n) → q ≡ p +ℤ pos (2 * n)
  apart p q a b n r s t = omega (arith, ints, r.least, r.most, s.least, s.most)
place_more x y (suc (suc (suc bits))) k few e = absurd (omega arith)

pub rest_more : (x y : ℤ) (bits k : ℕ) → bits ≤ 2 → y ≡ x +ℤ pos (2 ^ (bits + 1) * k) → rest_at y bits ≡ rest_at x bits
rest_more x y zero k few e = same (place_at x 0) (place_at y 0) x y k (place_more x y 0 k few e) e where
  same : (p q a b : ℤ) (n : ℕ) → q ≡ p +ℤ pos (2 * n) → b ≡ a +ℤ pos (2 * n) → b -ℤ q *ℤ pos 1 ≡ a -ℤ p *ℤ pos 1
  same p q a b n s t = omega (arith, ints)
rest_more x y (suc zero) k few e = same (place_at x 1) (place_at y 1) x y k (place_more x y 1 k few e) e where
  same : (p q a b : ℤ) (n : ℕ) → q ≡ p +ℤ pos (2 * n) → b ≡ a +ℤ pos (4 * n) → b -ℤ q *ℤ pos 2 ≡ a -ℤ p *ℤ pos 2
  same p q a b n s t = omega (arith, ints)
rest_more x y (suc (suc zero)) k few e = same (place_at x 2) (place_at y 2) x y k (place_more x y 2 k few e) e where
  same : (p q a b : ℤ) (n : ℕ) → q ≡ p +ℤ pos (2 * n) → b ≡ a +ℤ pos (8 * n) → b -ℤ q *ℤ pos 4 ≡ a -ℤ p *ℤ pos 4
  same p q a b n s t = omega (arith, ints)
rest_more x y (suc (suc (suc bits))) k few e = absurd (omega arith)

-- the sample there
pub part_more : (t : Table) (bits k : ℕ) (x y z : ℤ) → bits ≤ 2 → z ≡ x +ℤ pos (2 ^ (bits + 1) * k)
    → rounded (2 * bits) (bilinear t (2 ^ bits) (place_at x bits +ℤ pos (2 * k)) (place_at y bits) (rest_at x bits) (rest_at y bits)) ≡ part_sample t bits z y
unfolding part_sample
part_more t bits k x y z few e =
    ap (λ p. rounded (2 * bits) (bilinear t (2 ^ bits) p (place_at y bits) (rest_at x bits) (rest_at y bits))) (sym (place_more x z bits k few e))
    ∙ ap (λ r. rounded (2 * bits) (bilinear t (2 ^ bits) (place_at z bits) (place_at y bits) r (rest_at y bits))) (sym (rest_more x z bits k few e))

-- a position that is a place holds the sample of that place
by_one : (z v : ℤ) → z ≡ v → shr_z z 1 ≡ v
by_one (pos n) v e = omega (arith, ints)
by_one (negsuc n) v e = omega (arith, ints)

by_four : (z v : ℤ) → z ≡ pos 4 *ℤ v +ℤ pos 2 → shr_z z 4 ≡ v
by_four (pos n) v e = omega (arith, ints)
by_four (negsuc n) v e = omega (arith, ints)

by_sixteen : (z v : ℤ) → z ≡ pos 16 *ℤ v +ℤ pos 8 → shr_z z 16 ≡ v
by_sixteen (pos n) v e = omega (arith, ints)
by_sixteen (negsuc n) v e = omega (arith, ints)

first_of_four : (m n : ℕ) (a b c d : ℤ) → (pos m *ℤ (pos m *ℤ a) +ℤ pos m *ℤ (pos 0 *ℤ b)) +ℤ (pos 0 *ℤ (pos m *ℤ c) +ℤ pos 0 *ℤ (pos 0 *ℤ d)) +ℤ pos n ≡ pos m *ℤ (pos m *ℤ a) +ℤ pos n
first_of_four m n a b c d =
    rw (zero-*ℤ b, zero-*ℤ (pos m *ℤ c), zero-*ℤ (pos 0 *ℤ d), *ℤ-zero (pos m)) (omega (arith, ints))

pub four_at_place : (bits : ℕ) (v00 v10 v01 v11 : ℤ) → bits ≤ 2 → rounded (2 * bits) (sum_of_four (2 ^ bits) (pos 0) (pos 0) v00 v10 v01 v11) ≡ v00
four_at_place zero v00 v10 v01 v11 few = by_one _ v00 (first_of_four 1 0 v00 v10 v01 v11 ∙ times v00) where
  times : (v : ℤ) → pos 1 *ℤ (pos 1 *ℤ v) +ℤ pos 0 ≡ v
  times v = omega (arith, ints)
four_at_place (suc zero) v00 v10 v01 v11 few = by_four _ v00 (first_of_four 2 2 v00 v10 v01 v11 ∙ times v00) where
  times : (v : ℤ) → pos 2 *ℤ (pos 2 *ℤ v) +ℤ pos 2 ≡ pos 4 *ℤ v +ℤ pos 2
  times v = omega (arith, ints)
four_at_place (suc (suc zero)) v00 v10 v01 v11 few = by_sixteen _ v00 (first_of_four 4 8 v00 v10 v01 v11 ∙ times v00) where
  times : (v : ℤ) → pos 4 *ℤ (pos 4 *ℤ v) +ℤ pos 8 ≡ pos 16 *ℤ v +ℤ pos 8
  times v = omega (arith, ints)
four_at_place (suc (suc (suc bits))) v00 v10 v01 v11 few = absurd (omega arith)

pub parts_at_places : (t : Table) (bits : ℕ) (across down right below : ℤ) (out : List ℤ) → bits ≤ 2 → right ≡ pos 0 → below ≡ pos 0 → AreAlternateSamples t across down out → AreAlternateSubSamples t bits across down right below out
parts_at_places t bits across down right below out few er eb h k l =
    h k l
    ∙ sym (four_at_place bits (clamped_at t (across +ℤ pos (2 * k)) down) (clamped_at t ((across +ℤ pos (2 * k)) +ℤ pos 1) down)
    (clamped_at t (across +ℤ pos (2 * k)) (down +ℤ pos 1)) (clamped_at t ((across +ℤ pos (2 * k)) +ℤ pos 1) (down +ℤ pos 1)) few)
    ∙ ap (λ r. rounded (2 * bits) (bilinear t (2 ^ bits) (across +ℤ pos (2 * k)) down r (pos 0))) (sym er)
    ∙ ap (λ b. rounded (2 * bits) (bilinear t (2 ^ bits) (across +ℤ pos (2 * k)) down right b)) (sym eb)

-- places inside a row
inside_place : (x : ℤ) (i size : ℕ) → x ≡ pos i → i < size → clamped_to x size ≡ i
inside_place x i size e l = rw e (grind (arith, ints))

pub row_place : (t : Table) (row : List ℤ) (x y : ℤ) (i place : ℕ) → ((j : ℕ) → j < t.width → get_or row (place_in_row (length row) j) (pos 0) ≡ table_at t j (clamped_to y t.height)) → place ≡ place_in_row (length row) i
    → x ≡ pos i → i < t.width → get_or row place (pos 0) ≡ clamped_at t x y
row_place t row x y i place h there e l =
    ap (λ p. get_or row p (pos 0)) there ∙ h i l ∙ ap (λ j. table_at t j (clamped_to y t.height)) (sym (inside_place x i t.width e l))

-- one more place of a row is written
pub written_more : (f : ℕ → ℤ) (out : List ℤ) (n m : ℕ) (v : ℤ) → ((k : ℕ) → k < n → get_or out k (pos 0) ≡ f k) → n < length out → m ≡ n + 1 → v ≡ f n
    → (k : ℕ) → k < m → get_or (set out n v) k (pos 0) ≡ f k
written_more f out n m v h fits next e k l = elim (cases_eq k n) [
  | inl here ↦ ap (λ i. get_or (set out n v) i (pos 0)) here ∙ get_or-set_same out n v (pos 0) fits ∙ e ∙ ap f (sym here)
  | inr other ↦ get_or-set_other out n k v (pos 0) other ∙ h k (omega arith)
]

-- rows of which all is told
pub places_told : (t : Table) (a b p q : ℤ) (out : List ℤ) (n : ℕ) → ((k : ℕ) → k < n → get_or out k (pos 0) ≡ clamped_at t (a +ℤ pos (2 * k)) b) → length out ≤ n → a ≡ p → b ≡ q → AreAlternateSamples t p q out
places_told t a b p q out n h all ea eb k l =
    h k (omega arith) ∙ ap (λ z. clamped_at t (z +ℤ pos (2 * k)) b) ea ∙ ap (λ z. clamped_at t (p +ℤ pos (2 * k)) z) eb

-- rows of places that are read from a row of the table
pub places_inside : (t : Table) (across down : ℤ) (row out : List ℤ) (at left : ℕ)
    → ((j : ℕ) → j < t.width → get_or row (place_in_row (length row) j) (pos 0) ≡ table_at t j (clamped_to down t.height)) → across ≡ pos at → at + 2 * length out ≤ t.width → left ≡ place_in_row (length row) at
    → ((k : ℕ) → k < length out → get_or out k (pos 0) ≡ get_or row (left + k) (pos 0)) → AreAlternateSamples t across down out
places_inside t across down row out at left h e fits el all k l =
    let here : across +ℤ pos (2 * k) ≡ pos (at + 2 * k) = omega (arith, ints) in
    all k l ∙ row_place t row (across +ℤ pos (2 * k)) down (at + 2 * k) (left + k) h (omega (arith, el, held_more (length row) at k (at + 2 * k) refl)) here (omega arith)

-- rows of parts that are read from two rows of the table
pub parts_inside : (t : Table) (bits : ℕ) (across down right below : ℤ) (above under out : List ℤ) (at left next : ℕ)
    → ((j : ℕ) → j < t.width → get_or above (place_in_row (length above) j) (pos 0) ≡ table_at t j (clamped_to down t.height))
    → ((j : ℕ) → j < t.width → get_or under (place_in_row (length under) j) (pos 0) ≡ table_at t j (clamped_to (down +ℤ pos 1) t.height))
    → length under ≡ length above → across ≡ pos at → at + 2 * length out ≤ t.width → left ≡ place_in_row (length above) at → next ≡ place_in_row (length above) (at + 1)
    → ((k : ℕ) → k < length out → get_or out k (pos 0) ≡ between_sides bits right below above under (left + k) (next + k)) → AreAlternateSubSamples t bits across down right below out
parts_inside t bits across down right below above under out at left next ha hu same e fits el en h k l =
    let here : across +ℤ pos (2 * k) ≡ pos (at + 2 * k) = omega (arith, ints) in
    let beside : (across +ℤ pos (2 * k)) +ℤ pos 1 ≡ pos (at + 2 * k + 1) = omega (arith, ints) in
    let p : left + k ≡ place_in_row (length above) (at + 2 * k) = omega (arith, el, held_more (length above) at k (at + 2 * k) refl) in
    let q : next + k ≡ place_in_row (length above) (at + 2 * k + 1) = omega (arith, en, held_more (length above) (at + 1) k (at + 2 * k + 1) (omega arith)) in
    let p_under : left + k ≡ place_in_row (length under) (at + 2 * k) = p ∙ ap (λ n. place_in_row n (at + 2 * k)) (sym same) in
    let q_under : next + k ≡ place_in_row (length under) (at + 2 * k + 1) = q ∙ ap (λ n. place_in_row n (at + 2 * k + 1)) (sym same) in
    h k l
    ∙ rw (
      row_place t above (across +ℤ pos (2 * k)) down (at + 2 * k) (left + k) ha p here (omega arith),
      row_place t above ((across +ℤ pos (2 * k)) +ℤ pos 1) down (at + 2 * k + 1) (next + k) ha q beside (omega arith),
      row_place t under (across +ℤ pos (2 * k)) (down +ℤ pos 1) (at + 2 * k) (left + k) hu p_under here (omega arith),
      row_place t under ((across +ℤ pos (2 * k)) +ℤ pos 1) (down +ℤ pos 1) (at + 2 * k + 1) (next + k) hu q_under beside (omega arith),
    ) refl
