-- The table of the best splits and blocks is a block table.
use Rattle.std.proofs.Common.{◌≡◌, ℕ, ℤ, pos, zero, suc, ◌+◌, ◌*◌, ◌/◌, ◌%◌, ◌<◌, ◌≤◌, ◌==◌, nat_lt, List, [], ◌∷◌, map, Option, Some, None, length, arith, refl, inl, inr, ap, sym, subst, ◌∙◌}
use Rattle.std.specs.List.{All, range_with_len}
use Rattle.std.proofs.lemmas.Int.{ints}
use Rattle.std.proofs.lemmas.Bool.{cases_Bool, cases_lt}
use Rattle.std.proofs.lemmas.List.{get_or_past}
use Rattle.std.proofs.lemmas.List.Elements.{All-filter}
use Rattle.std.proofs.lemmas.List.FromFn.{get_or-map-range_with_len, length-map-range_with_len}
use Rattle.std.proofs.lemmas.Nat.{div-mul-add, mod-mul-add, row_fits}
use Rattle.dirac_common.specs.declared.formats.Vector.{Vector}
use Rattle.dirac_vectors.specs.Neighbours.{IsShort}
use Rattle.dirac_vectors.specs.Predictions.{IsShortVector}
use Rattle.dirac_upconvert.specs.HalfSamples.{IsSample}
use Rattle.dirac_block_table.specs.Tables.{grey, IsBlock, IsBlockTable, block_in, first_in_unit, no_vector, split_at, unit_of}
use Rattle.dirac_search.specs.Candidates.{no_motion, field_vector}
use Rattle.dirac_decide.specs.Choosing.{cheaper, motion_mode}
use Rattle.dirac_decide.specs.Deciding.{Deciding, IsDeciding, View}
use Rattle.dirac_decide.specs.Laws.{IsLawfulDecision}
use Rattle.dirac_decide.specs.Modes.{HasDcSamples, both_mode, choice_of, dc_mode, first_mode, from_both, from_dc, from_first, from_second, count_of_references, second_mode}
use Rattle.dirac_decide.specs.Splits.{best_block, best_split, block_by_rows, decided, best_split_by_rows, unit_in}
use Rattle.dirac_decide.specs.Units.{best_place, best_vector, candidate, inside_to, unit_keeps, vector_cost}
use Rattle.dirac_decide.specs.declared.choice.Choice.{Choice}
use Rattle.dirac_decide.specs.declared.prediction_unit.PredictionUnit.{PredictionUnit}
use Rattle.dirac_decide.proofs.Choices.{modes_are}
use Rattle.dirac_decide.proofs.Insides.{first_has}
use Rattle.dirac_decide.proofs.DcValues.{blocks_have, dc_has, low_split, some_size}

-- ---- blocks

zero_fits : IsShort (pos 0)
zero_fits = record { least = omega (arith, ints); most = omega (arith, ints) }

nowhere : IsShortVector no_vector
nowhere = record { x = zero_fits; y = zero_fits }

sample_short : (v : ℤ) → IsSample v → IsShort v
sample_short v is = record { least = omega (arith, ints, is.least); most = omega (arith, ints, is.most) }

pub first_block : (refs : ℕ) (v : Vector) → IsShortVector v → IsBlock refs (from_first v)
first_block refs v is = record {
  second = λ e. refl;
  v1 = is;
  v2 = nowhere;
  dc_y = zero_fits;
  dc_u = zero_fits;
  dc_v = zero_fits;
  no_v1 = λ e. absurd cc;
  no_v2 = λ e. refl;
  no_dc = λ e. (refl, refl, refl);
}

pub second_block : (v : Vector) → IsShortVector v → IsBlock 2 (from_second v)
second_block v is = record {
  second = λ e. absurd (omega arith);
  v1 = nowhere;
  v2 = is;
  dc_y = zero_fits;
  dc_u = zero_fits;
  dc_v = zero_fits;
  no_v1 = λ e. refl;
  no_v2 = λ e. absurd cc;
  no_dc = λ e. (refl, refl, refl);
}

pub both_block : (v w : Vector) → IsShortVector v → IsShortVector w → IsBlock 2 (from_both v w)
both_block v w is also = record {
  second = λ e. absurd (omega arith);
  v1 = is;
  v2 = also;
  dc_y = zero_fits;
  dc_u = zero_fits;
  dc_v = zero_fits;
  no_v1 = λ e. absurd cc;
  no_v2 = λ e. absurd cc;
  no_dc = λ e. (refl, refl, refl);
}

pub dc_block_of : (refs : ℕ) (y u v : ℤ) → HasDcSamples (from_dc y u v) → IsBlock refs (from_dc y u v)
dc_block_of refs y u v is = record {
  second = λ e. refl;
  v1 = nowhere;
  v2 = nowhere;
  dc_y = sample_short y is.y;
  dc_u = sample_short u is.u;
  dc_v = sample_short v is.v;
  no_v1 = λ e. refl;
  no_v2 = λ e. refl;
  no_dc = λ e. absurd cc;
}

-- a vector of a reference, or that of no motion
vector_short : (r : View) (i j : ℕ) → All IsShortVector r.field.vectors → IsShortVector (field_vector r.field i j)
vector_short r i j all = elim (cases_lt (j * (4 * r.field.across) + i) (length r.field.vectors)) [
  | inl inside ↦ all (j * (4 * r.field.across) + i) no_motion inside
  | inr past ↦ rw (get_or_past r.field.vectors (j * (4 * r.field.across) + i) no_motion past) nowhere
]

candidates_short : (r : View) (u : PredictionUnit) (ks : List ℕ) → All IsShortVector r.field.vectors → All IsShortVector (map (candidate r u) ks)
candidates_short r u [] all k d l = absurd (omega arith)
candidates_short r u (m ∷ ms) all zero d l = vector_short r (u.i + m % u.size) (u.j + m / u.size) all
candidates_short r u (m ∷ ms) all (suc k) d l = candidates_short r u ms all k d (omega arith)

best_short : (d : Deciding) (r : View) (u : PredictionUnit) → All IsShortVector r.field.vectors → IsShortVector (best_vector d r u)
unfolding best_vector
best_short d r u all = elim (cases_Bool (d.alike == 0)) [
  | inl every ↦ rw every (vector_short r (u.i + best_place d r u % u.size) (u.j + best_place d r u / u.size) all)
  | inr some ↦ rw some
      (first_has IsShortVector (vector_cost d r u) (inside_to d r u (u.size * u.size)) nowhere
      (All-filter (unit_keeps d u) IsShortVector (map (candidate r u) (range_with_len 0 (u.size * u.size))) (candidates_short r u (range_with_len 0 (u.size * u.size)) all)))
]

cheaper_block : (refs : ℕ) (a b : Choice) → IsBlock refs a.block → IsBlock refs b.block → IsBlock refs (cheaper a b).block
cheaper_block refs a b p q = elim (cases_Bool (nat_lt b.cost a.cost)) [
  | inl less ↦ rw less q
  | inr more ↦ rw more p
]

motion_block : (d : Deciding) (u : PredictionUnit) (o : Option View) → All IsShortVector d.first.field.vectors
    → ((r : View) → o ≡ Some r → All IsShortVector r.field.vectors) → IsBlock (count_of_references o) (motion_mode d u o).block
motion_block d u None first second = first_block 1 (best_vector d d.first u) (best_short d d.first u first)
motion_block d u (Some r) first second =
    let v = best_short d d.first u first in
    let w = best_short d r u (second r refl) in
    cheaper_block 2 (cheaper (first_mode d u) (second_mode d r u)) (both_mode d r u)
    (cheaper_block 2 (first_mode d u) (second_mode d r u) (first_block 2 (best_vector d d.first u) v) (second_block (best_vector d r u) w))
    (both_block (best_vector d d.first u) (best_vector d r u) v w)

choice_block : (d : Deciding) (u : PredictionUnit) → IsDeciding d → 1 ≤ u.size → IsBlock (count_of_references d.second) (choice_of d u).block
unfolding choice_of
choice_block d u h some =
    subst (λ (c : Choice). IsBlock (count_of_references d.second) c.block) (modes_are d u d.second)
    (cheaper_block (count_of_references d.second) (motion_mode d u d.second) (dc_mode d u)
    (motion_block d u d.second h.first.of_16_bits (λ r e. (h.second r e).of_16_bits))
    (dc_block_of (count_of_references d.second) _ _ _ (dc_has d u h some)))

best_is_block : (d : Deciding) (sx sy i j : ℕ) → IsDeciding d → IsBlock (count_of_references d.second) (best_block d sx sy i j)
best_is_block d sx sy i j h =
    let split = best_split d sx sy in
    choice_block d (unit_in split sx sy (unit_of split i j)) h (some_size split (low_split d sx sy))

-- ---- places

two_refs : (o : Option View) → (1 ≤ count_of_references o) × (count_of_references o ≤ 2)
two_refs None = (omega arith, omega arith)
two_refs (Some r) = (omega arith, omega arith)

split_is : (d : Deciding) (sx sy : ℕ) → sx < d.across → sy < d.down → split_at (decided d) sx sy ≡ best_split d sx sy
unfolding decided
split_is d sx sy a b =
    let inside : sy * d.across + sx < d.down * d.across = omega (arith, row_fits sy d.across d.down d.across b (omega arith)) in
    get_or-map-range_with_len (best_split_by_rows d) 0 (d.down * d.across) (sy * d.across + sx) (sy * d.across + sx) 0 inside (omega arith)
    ∙ ap (λ x. best_split d x ((sy * d.across + sx) / d.across)) (mod-mul-add sy d.across sx a)
    ∙ ap (best_split d sx) (div-mul-add sy d.across sx a)

-- block i of row j of a superblock, with its place in the picture
place_across : (sx i : ℕ) → i < 4 → ((4 * sx + i) / 4 ≡ sx) × ((4 * sx + i) % 4 ≡ i)
place_across sx i l = (omega arith, omega arith)

block_is : (d : Deciding) (sx sy i j : ℕ) → sx < d.across → sy < d.down → i < 4 → j < 4 → block_in (decided d) sx sy i j ≡ best_block d sx sy i j
unfolding decided
block_is d sx sy i j a b l m =
    let x = 4 * sx + i in
    let y = 4 * sy + j in
    let w = 4 * d.across in
    let across : x < w = omega arith in
    let down : y < 4 * d.down = omega arith in
    let inside : y * w + x < 4 * d.down * w = omega (arith, row_fits y w (4 * d.down) w down (omega arith)) in
    let column = place_across sx i l in
    let row = place_across sy j m in
    get_or-map-range_with_len (block_by_rows d) 0 (4 * d.down * w) (y * w + x) (y * w + x) grey inside (omega arith)
    ∙ ap (λ p. best_block d (p / 4) ((y * w + x) / w / 4) (p % 4) ((y * w + x) / w % 4)) (mod-mul-add y w x across)
    ∙ ap (λ q. best_block d (x / 4) (q / 4) (x % 4) (q % 4)) (div-mul-add y w x across)
    ∙ ap (λ p. best_block d p (y / 4) (x % 4) (y % 4)) column.0 ∙ ap (λ p. best_block d sx p (x % 4) (y % 4)) row.0
    ∙ ap (λ p. best_block d sx sy p (y % 4)) column.1 ∙ ap (best_block d sx sy i) row.1

-- a block has its unit's number
first_below : (split i : ℕ) → split ≤ 2 → i < 4 → first_in_unit split i < 4
first_below zero i l m = omega arith
first_below (suc zero) i l m = omega arith
first_below (suc (suc zero)) i l m = omega arith
first_below (suc (suc (suc split))) i l m = absurd (omega arith)

same_unit : (split i j : ℕ) → split ≤ 2 → i < 4 → j < 4 → unit_of split (first_in_unit split i) (first_in_unit split j) ≡ unit_of split i j
same_unit zero i j l m n = omega arith
same_unit (suc zero) i j l m n = omega arith
same_unit (suc (suc zero)) i j l m n = omega arith
same_unit (suc (suc (suc split))) i j l m n = absurd (omega arith)

units_same : (d : Deciding) (sx sy i j : ℕ) → sx < d.across → sy < d.down → i < 4 → j < 4
    → block_in (decided d) sx sy i j ≡ block_in (decided d) sx sy (first_in_unit (split_at (decided d) sx sy) i) (first_in_unit (split_at (decided d) sx sy) j)
units_same d sx sy i j a b l m =
    let s = best_split d sx sy in
    let low = low_split d sx sy in
    block_is d sx sy i j a b l m
    ∙ ap (λ u. (choice_of d (unit_in s sx sy u)).block) (sym (same_unit s i j low l m))
    ∙ sym (block_is d sx sy (first_in_unit s i) (first_in_unit s j) a b (first_below s i low l) (first_below s j low m))
    ∙ ap (λ t. block_in (decided d) sx sy (first_in_unit t i) (first_in_unit t j)) (sym (split_is d sx sy a b))

-- ---- the table

splits_low : (d : Deciding) → All (λ s. s ≤ 2) (decided d).splits
unfolding decided
splits_low d k dflt l =
    let inside : k < d.down * d.across = omega (arith, l, length-map-range_with_len (best_split_by_rows d) 0 (d.down * d.across)) in
    rw (get_or-map-range_with_len (best_split_by_rows d) 0 (d.down * d.across) k k dflt inside (omega arith)) (low_split d (k % d.across) (k / d.across))

blocks_lawful : (d : Deciding) → IsDeciding d → All (IsBlock (count_of_references d.second)) (decided d).blocks
unfolding decided
blocks_lawful d h k dflt l =
    let n = 4 * d.down * (4 * d.across) in
    let inside : k < n = omega (arith, l, length-map-range_with_len (block_by_rows d) 0 n) in
    rw (get_or-map-range_with_len (block_by_rows d) 0 n k k dflt inside (omega arith)) (best_is_block d _ _ _ _ h)

table_lawful : (d : Deciding) → IsDeciding d → 1 ≤ d.across → 1 ≤ d.down → IsBlockTable (decided d)
unfolding decided
table_lawful d h across down = record {
  size = record {
    some_across = across;
    most_across = omega (arith, h.first.same_across, h.first.size.most_across);
    some_down = down;
    most_down = omega (arith, h.first.same_down, h.first.size.most_down);
    some_refs = (two_refs d.second).0;
    most_refs = (two_refs d.second).1;
  };
  splits_len = length-map-range_with_len (best_split_by_rows d) 0 (d.down * d.across);
  blocks_len = length-map-range_with_len (block_by_rows d) 0 (4 * d.down * (4 * d.across));
  splits = splits_low d;
  blocks = blocks_lawful d h;
  units = λ sx sy i j a b l m. units_same d sx sy i j a b l m;
}

pub decided_lawful : (d : Deciding) → IsDeciding d → 1 ≤ d.across → 1 ≤ d.down → IsLawfulDecision d
decided_lawful d h across down = record { table = table_lawful d h across down; samples = blocks_have d h }
