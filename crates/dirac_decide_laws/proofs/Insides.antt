-- Where streams are to be shown alike, the vectors of a decided table keep inside.
use Rattle.std.proofs.Common.{◌≡◌, ℕ, zero, suc, ◌+◌, ◌-◌, ◌*◌, ◌/◌, ◌%◌, ◌^◌, ◌<◌, ◌≤◌, ◌==◌, Bool, true, false, List, [], ◌∷◌, length, get_or, map, Option, None, Some, arith, refl, ap, inl, inr, sym, subst, ◌∙◌}
use Rattle.std.specs.List.{All, range_with_len}
use Rattle.std.proofs.lemmas.Bool.{cases_Bool}
use Rattle.std.proofs.lemmas.List.Elements.{filter_passes}
use Rattle.dirac_common.specs.declared.formats.Vector.{Vector}
use Rattle.dirac_block_table.specs.declared.block.Block.{Block}
use Rattle.dirac_block_table.specs.Tables.{block_at, block_in, unit_of}
use Rattle.dirac_inside.specs.Inside.{all_below, keeps_inside}
use Rattle.dirac_inside.specs.Ranges.{AreBlocks}
use Rattle.dirac_inside.proofs.Below.{all_from, all_tells}
use Rattle.dirac_inside.proofs.Zeros.{zero_keeps}
use Rattle.dirac_inside_laws.specs.Kept.{BlockKeepsInside, VectorsKeepInside}
use Rattle.dirac_search.specs.Candidates.{no_motion}
use Rattle.dirac_decide.specs.Deciding.{Deciding, IsDeciding, View}
use Rattle.dirac_decide.specs.Modes.{both_mode, choice_of, dc_mode, first_mode, other_modes, second_mode}
use Rattle.dirac_decide.specs.Splits.{best_block, best_split, decided, unit_in}
use Rattle.dirac_decide.specs.Units.{best_inside, best_vector, block_keeps, decided_blocks, candidate, inside_to, unit_keeps, vector_cost}
use Rattle.dirac_decide.specs.declared.choice.Choice.{Choice}
use Rattle.dirac_decide.specs.declared.prediction_unit.PredictionUnit.{PredictionUnit}
use Rattle.dirac_decide.proofs.DcValues.{low_split}
use Rattle.dirac_decide.proofs.Insides.{are_blocks, first_has, vector_inside}
use Rattle.dirac_decide_laws.specs.Tables.{TablesKeepInside}
use Rattle.dirac_decide_laws.proofs.Choices.{modes_least}
use Rattle.dirac_decide_laws.proofs.Tables.{block_is}

-- the sizes of the blocks that are decided
pub record HasBlocks (d : Deciding) : Type 0 where
  pub blocks : AreBlocks (decided_blocks d)
  pub precision : d.precision ≤ 3

-- ---- units

-- no motion keeps inside
unit_zero : (d : Deciding) (u : PredictionUnit) → HasBlocks d → unit_keeps d u no_motion ≡ true
unfolding unit_keeps
unit_zero d u h =
    all_from (block_keeps d u no_motion) (u.size * u.size) (λ k l. zero_keeps (decided_blocks d) d.precision (u.i + k % u.size) (u.j + k / u.size) h.blocks h.precision)

-- so does the best vector
best_keeps : (d : Deciding) (r : View) (u : PredictionUnit) → HasBlocks d → (d.alike ≡ 0 → ⊥) → unit_keeps d u (best_vector d r u) ≡ true
best_keeps d r u h some =
    subst (λ (v : Vector). unit_keeps d u v ≡ true) (sym (vector_inside d r u some))
    (first_has (λ v. unit_keeps d u v ≡ true) (vector_cost d r u) (inside_to d r u (u.size * u.size)) (unit_zero d u h)
    (filter_passes (unit_keeps d u) (map (candidate r u) (range_with_len 0 (u.size * u.size)))))

-- the vectors of a block keep inside from all blocks of its unit
record HasInsides (d : Deciding) (u : PredictionUnit) (b : Block) : Type 0 where
  first : b.ref1 ≡ true → unit_keeps d u b.v1 ≡ true
  second : b.ref2 ≡ true → unit_keeps d u b.v2 ≡ true

module _ (d : Deciding) (u : PredictionUnit) (h : HasBlocks d) (some : d.alike ≡ 0 → ⊥) where
  modes_have : (o : Option View) (k : ℕ) (c : Choice) → k < length (first_mode d u ∷ other_modes d u o) → HasInsides d u (get_or (first_mode d u ∷ other_modes d u o) k c).block
  modes_have None zero c l = record { first = λ e. best_keeps d d.first u h some; second = λ e. absurd cc }
  modes_have None (suc zero) c l = record { first = λ e. absurd cc; second = λ e. absurd cc }
  modes_have None (suc (suc k)) c l = absurd (omega arith)
  modes_have (Some r) zero c l = record { first = λ e. best_keeps d d.first u h some; second = λ e. absurd cc }
  modes_have (Some r) (suc zero) c l = record { first = λ e. absurd cc; second = λ e. best_keeps d r u h some }
  modes_have (Some r) (suc (suc zero)) c l = record { first = λ e. best_keeps d d.first u h some; second = λ e. best_keeps d r u h some }
  modes_have (Some r) (suc (suc (suc zero))) c l = record { first = λ e. absurd cc; second = λ e. absurd cc }
  modes_have (Some r) (suc (suc (suc (suc k)))) c l = absurd (omega arith)

  choice_has : HasInsides d u (choice_of d u).block
  choice_has =
      let is = modes_least d u in
      subst (λ (c : Choice). HasInsides d u c.block) is.there (modes_have d.second is.place (choice_of d u) is.inside)

-- ---- blocks

-- the number of a block in its unit
record IsBlockOf (u : PredictionUnit) (i j : ℕ) : Type 0 where
  number : ℕ
  inside : number < u.size * u.size
  column : u.i + number % u.size ≡ i
  row : u.j + number / u.size ≡ j

block_of_unit : (split sx sy i j : ℕ) → split ≤ 2 → i < 4 → j < 4 → IsBlockOf (unit_in split sx sy (unit_of split i j)) (4 * sx + i) (4 * sy + j)
block_of_unit zero sx sy i j l a b = record { number = j * 4 + i; inside = omega arith; column = omega arith; row = omega arith }
block_of_unit (suc zero) sx sy i j l a b = record { number = j % 2 * 2 + i % 2; inside = omega arith; column = omega arith; row = omega arith }
block_of_unit (suc (suc zero)) sx sy i j l a b = record { number = 0; inside = omega arith; column = omega arith; row = omega arith }
block_of_unit (suc (suc (suc split))) sx sy i j l a b = absurd (omega arith)

-- what keeps inside from all blocks of a unit does from each
from_block : (d : Deciding) (u : PredictionUnit) (v : Vector) (i j : ℕ) → IsBlockOf u i j → unit_keeps d u v ≡ true → keeps_inside (decided_blocks d) d.precision i j v ≡ true
unfolding unit_keeps
from_block d u v i j is keeps =
    subst (λ (a : ℕ). keeps_inside (decided_blocks d) d.precision a j v ≡ true) is.column
    (subst (λ (b : ℕ). keeps_inside (decided_blocks d) d.precision (u.i + is.number % u.size) b v ≡ true) is.row
    (all_tells (block_keeps d u v) (u.size * u.size) keeps is.number is.inside))

block_keeps_inside : (d : Deciding) (sx sy i j : ℕ) → HasBlocks d → (d.alike ≡ 0 → ⊥) → i < 4 → j < 4 → BlockKeepsInside (decided_blocks d) d.precision (4 * sx + i) (4 * sy + j) (best_block d sx sy i j)
block_keeps_inside d sx sy i j h some a b =
    let split = best_split d sx sy in
    let u = unit_in split sx sy (unit_of split i j) in
    let is = block_of_unit split sx sy i j (low_split d sx sy) a b in
    let has = choice_has d u h some in
    record {
      first = λ e. from_block d u (best_block d sx sy i j).v1 (4 * sx + i) (4 * sy + j) is (has.first e);
      second = λ e. from_block d u (best_block d sx sy i j).v2 (4 * sx + i) (4 * sy + j) is (has.second e);
    }

pub tables_inside : (d : Deciding) → HasBlocks d → (d.alike ≡ 0 → ⊥) → VectorsKeepInside (decided_blocks d) d.precision (decided d)
unfolding decided
tables_inside d h some i j column row =
    let sx = i / 4 in
    let sy = j / 4 in
    let across : 4 * (i / 4) + i % 4 ≡ i = omega arith in
    let down : 4 * (j / 4) + j % 4 ≡ j = omega arith in
    let small : i % 4 < 4 = omega arith in
    let low : j % 4 < 4 = omega arith in
    let in_superblock = subst (λ (b : Block). BlockKeepsInside (decided_blocks d) d.precision (4 * sx + i % 4) (4 * sy + j % 4) b) (sym (block_is d sx sy (i % 4) (j % 4) (omega arith) (omega arith) small low))
    (block_keeps_inside d sx sy (i % 4) (j % 4) h some small low) in
    subst (λ (a : ℕ). BlockKeepsInside (decided_blocks d) d.precision a j (block_at (decided d) a j)) across
    (subst (λ (b : ℕ). BlockKeepsInside (decided_blocks d) d.precision (4 * sx + i % 4) b (block_at (decided d) (4 * sx + i % 4) b)) down in_superblock)

pub tables_keep_inside : TablesKeepInside
tables_keep_inside d h some = tables_inside d (record { blocks = are_blocks d h; precision = h.precision }) some
