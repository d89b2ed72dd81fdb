-- The table that is decided has splits, blocks and vectors of least cost.
use Rattle.std.proofs.Common.{◌≡◌, ℕ, zero, suc, ◌+◌, ◌*◌, ◌/◌, ◌%◌, ◌<◌, ◌≤◌, ◌∷◌, length, get_or, Option, None, Some, arith, refl, ap, sym, subst, ◌∙◌}
use Rattle.std.proofs.lemmas.List.FromFn.{get_or-map-range_with_len}
use Rattle.std.proofs.lemmas.Nat.{div-mul-add, mod-mul-add, row_fits}
use Rattle.dirac_block_table.specs.Tables.{block_in, grey, split_at, unit_of}
use Rattle.dirac_search_laws.specs.Least.{IsFirstOfLeastCost}
use Rattle.dirac_decide.specs.Deciding.{Deciding, View}
use Rattle.dirac_decide.specs.Modes.{both_mode, choice_of, dc_mode, first_mode, other_modes, second_mode}
use Rattle.dirac_decide.specs.Splits.{best_block, best_split, block_by_rows, decided, split_cost, best_split_by_rows, unit_in}
use Rattle.dirac_decide.specs.Units.{best_vector, vector_cost}
use Rattle.dirac_decide.specs.declared.choice.Choice.{Choice}
use Rattle.dirac_decide.specs.declared.prediction_unit.PredictionUnit.{PredictionUnit}
use Rattle.dirac_decide.proofs.DcValues.{low_split, some_size}
use Rattle.dirac_decide_laws.specs.Choices.{splits, taken_vectors}
use Rattle.dirac_decide_laws.specs.Tables.{HasLeastVectors, IsOfLeastMode, TablesAreLeast}
use Rattle.dirac_decide_laws.proofs.Choices.{modes_least, splits_least, vectors_least}

-- ---- places

split_is : (d : Deciding) (sx sy : ℕ) → sx < d.across → sy < d.down → split_at (decided d) sx sy ≡ best_split d sx sy
unfolding decided
split_is d sx sy a b =
    let inside : sy * d.across + sx < d.down * d.across = omega (arith, row_fits sy d.across d.down d.across b (omega arith)) in
    get_or-map-range_with_len (best_split_by_rows d) 0 (d.down * d.across) (sy * d.across + sx) (sy * d.across + sx) 0 inside (omega arith)
    ∙ ap (λ x. best_split d x ((sy * d.across + sx) / d.across)) (mod-mul-add sy d.across sx a)
    ∙ ap (best_split d sx) (div-mul-add sy d.across sx a)

-- block i of row j of a superblock, with its place in the picture
place_across : (sx i : ℕ) → i < 4 → ((4 * sx + i) / 4 ≡ sx) × ((4 * sx + i) % 4 ≡ i)
place_across sx i l = (omega arith, omega arith)

pub block_is : (d : Deciding) (sx sy i j : ℕ) → sx < d.across → sy < d.down → i < 4 → j < 4 → block_in (decided d) sx sy i j ≡ best_block d sx sy i j
unfolding decided
block_is d sx sy i j a b l m =
    let x = 4 * sx + i in
    let y = 4 * sy + j in
    let w = 4 * d.across in
    let across : x < w = omega arith in
    let down : y < 4 * d.down = omega arith in
    let inside : y * w + x < 4 * d.down * w = omega (arith, row_fits y w (4 * d.down) w down (omega arith)) in
    let column = place_across sx i l in
    let row = place_across sy j m in
    get_or-map-range_with_len (block_by_rows d) 0 (4 * d.down * w) (y * w + x) (y * w + x) grey inside (omega arith)
    ∙ ap (λ p. best_block d (p / 4) ((y * w + x) / w / 4) (p % 4) ((y * w + x) / w % 4)) (mod-mul-add y w x across)
    ∙ ap (λ q. best_block d (x / 4) (q / 4) (x % 4) (q % 4)) (div-mul-add y w x across)
    ∙ ap (λ p. best_block d p (y / 4) (x % 4) (y % 4)) column.0 ∙ ap (λ p. best_block d sx p (x % 4) (y % 4)) row.0
    ∙ ap (λ p. best_block d sx sy p (y % 4)) column.1 ∙ ap (best_block d sx sy i) row.1

-- ---- vectors

-- each mode has vectors of least cost
first_has : (d : Deciding) (u : PredictionUnit) → 1 ≤ u.size → HasLeastVectors d u (first_mode d u).block
first_has d u some = record { first = λ e. vectors_least d d.first u some; second = λ r is e. absurd cc }

-- the second reference is one
same_second : (d : Deciding) (u : PredictionUnit) (r other : View) → d.second ≡ Some r → d.second ≡ Some other → 1 ≤ u.size
    → IsFirstOfLeastCost (vector_cost d other u) (taken_vectors d other u) (best_vector d r u)
same_second d u r other is also some =
    let same : r ≡ other = cc in
    subst (λ (v : View). IsFirstOfLeastCost (vector_cost d v u) (taken_vectors d v u) (best_vector d r u)) same (vectors_least d r u some)

second_has : (d : Deciding) (u : PredictionUnit) (r : View) → d.second ≡ Some r → 1 ≤ u.size → HasLeastVectors d u (second_mode d r u).block
second_has d u r is some = record { first = λ e. absurd cc; second = λ other also e. same_second d u r other is also some }

both_has : (d : Deciding) (u : PredictionUnit) (r : View) → d.second ≡ Some r → 1 ≤ u.size → HasLeastVectors d u (both_mode d r u).block
both_has d u r is some = record {
  first = λ e. vectors_least d d.first u some;
  second = λ other also e. same_second d u r other is also some;
}

dc_has : (d : Deciding) (u : PredictionUnit) → HasLeastVectors d u (dc_mode d u).block
dc_has d u = record { first = λ e. absurd cc; second = λ r is e. absurd cc }

modes_have : (d : Deciding) (u : PredictionUnit) (o : Option View) → d.second ≡ o → 1 ≤ u.size → (k : ℕ) (c : Choice) → k < length (first_mode d u ∷ other_modes d u o)
    → HasLeastVectors d u (get_or (first_mode d u ∷ other_modes d u o) k c).block
modes_have d u None is some zero c l = first_has d u some
modes_have d u None is some (suc zero) c l = dc_has d u
modes_have d u None is some (suc (suc k)) c l = absurd (omega arith)
modes_have d u (Some r) is some zero c l = first_has d u some
modes_have d u (Some r) is some (suc zero) c l = second_has d u r is some
modes_have d u (Some r) is some (suc (suc zero)) c l = both_has d u r is some
modes_have d u (Some r) is some (suc (suc (suc zero))) c l = dc_has d u
modes_have d u (Some r) is some (suc (suc (suc (suc k)))) c l = absurd (omega arith)

choice_has : (d : Deciding) (u : PredictionUnit) → 1 ≤ u.size → HasLeastVectors d u (choice_of d u).block
choice_has d u some =
    let is = modes_least d u in
    subst (λ (c : Choice). HasLeastVectors d u c.block) is.there (modes_have d u d.second refl some is.place (choice_of d u) is.inside)

-- ---- costs

least_block : (d : Deciding) (sx sy i j : ℕ) → IsOfLeastMode d (unit_in (best_split d sx sy) sx sy (unit_of (best_split d sx sy) i j)) (best_block d sx sy i j)
least_block d sx sy i j =
    let u = unit_in (best_split d sx sy) sx sy (unit_of (best_split d sx sy) i j) in
    record { mode = choice_of d u; least = modes_least d u; same = refl }

block_has : (d : Deciding) (sx sy i j : ℕ) → HasLeastVectors d (unit_in (best_split d sx sy) sx sy (unit_of (best_split d sx sy) i j)) (best_block d sx sy i j)
block_has d sx sy i j =
    let split = best_split d sx sy in
    choice_has d (unit_in split sx sy (unit_of split i j)) (some_size split (low_split d sx sy))

pub tables_least : TablesAreLeast
tables_least d = record {
  splits = λ sx sy a b. subst (IsFirstOfLeastCost (split_cost d sx sy) splits) (sym (split_is d sx sy a b)) (splits_least d sx sy);
  blocks = λ sx sy i j a b l m.
      subst (λ (s : ℕ). IsOfLeastMode d (unit_in s sx sy (unit_of s i j)) (block_in (decided d) sx sy i j)) (sym (split_is d sx sy a b))
      (subst (IsOfLeastMode d (unit_in (best_split d sx sy) sx sy (unit_of (best_split d sx sy) i j))) (sym (block_is d sx sy i j a b l m)) (least_block d sx sy i j));
  vectors = λ sx sy i j a b l m.
      subst (λ (s : ℕ). HasLeastVectors d (unit_in s sx sy (unit_of s i j)) (block_in (decided d) sx sy i j)) (sym (split_is d sx sy a b))
      (subst (HasLeastVectors d (unit_in (best_split d sx sy) sx sy (unit_of (best_split d sx sy) i j))) (sym (block_is d sx sy i j a b l m)) (block_has d sx sy i j));
}
