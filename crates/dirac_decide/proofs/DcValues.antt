-- The DC values of decided blocks are samples.
use Rattle.std.proofs.Common.{ℕ, pos, zero, suc, ◌*◌, ◌/◌, ◌<◌, ◌≤◌, nat_lt, Option, Some, None, arith, inl, inr, subst}
use Rattle.std.specs.List.{All}
use Rattle.std.proofs.lemmas.Int.{ints}
use Rattle.std.proofs.lemmas.Bool.{cases_Bool}
use Rattle.std.proofs.lemmas.Nat.{mul-le}
use Rattle.std.proofs.lemmas.List.FromFn.{get_or-map-range_with_len, length-map-range_with_len}
use Rattle.dirac_block_table.specs.declared.block.Block.{Block}
use Rattle.dirac_block_table.specs.Tables.{unit_of, unit_size}
use Rattle.dirac_upconvert.specs.HalfSamples.{IsSample}
use Rattle.dirac_costs.proofs.Least.{is_first_least}
use Rattle.dirac_costs.proofs.Totals.{mean_over_sample}
use Rattle.dirac_decide.specs.Deciding.{Deciding, IsDeciding, View}
use Rattle.dirac_decide.specs.Choosing.{cheaper, motion_mode}
use Rattle.dirac_decide.specs.Modes.{HasDcSamples, both_mode, chroma_window, choice_of, dc_mode, first_mode, second_mode}
use Rattle.dirac_decide.specs.Predictors.{IsChromaSource}
use Rattle.dirac_decide.specs.Splits.{best_block, best_split, block_by_rows, decided, split_cost, unit_in}
use Rattle.dirac_decide.specs.Units.{unit_window}
use Rattle.dirac_decide.specs.declared.choice.Choice.{Choice}
use Rattle.dirac_decide.proofs.Choices.{modes_are}
use Rattle.dirac_decide.specs.declared.prediction_unit.PredictionUnit.{PredictionUnit}

zero_fits : IsSample (pos 0)
zero_fits = record { least = omega (arith, ints); most = omega (arith, ints) }

cheaper_has : (a b : Choice) → HasDcSamples a.block → HasDcSamples b.block → HasDcSamples (cheaper a b).block
cheaper_has a b p q = elim (cases_Bool (nat_lt b.cost a.cost)) [
  | inl less ↦ rw less q
  | inr more ↦ rw more p
]

motion_has : (d : Deciding) (u : PredictionUnit) (o : Option View) → HasDcSamples (motion_mode d u o).block
motion_has d u None = record { y = zero_fits; u = zero_fits; v = zero_fits }
motion_has d u (Some r) =
    cheaper_has (cheaper (first_mode d u) (second_mode d r u)) (both_mode d r u)
    (cheaper_has (first_mode d u) (second_mode d r u) (record { y = zero_fits; u = zero_fits; v = zero_fits }) (record { y = zero_fits; u = zero_fits; v = zero_fits }))
    (record { y = zero_fits; u = zero_fits; v = zero_fits })

some_part : (n ratio : ℕ) → 2 ≤ n → 1 ≤ ratio → ratio ≤ 2 → 1 ≤ n / ratio
some_part n zero a b c = absurd (omega arith)
some_part n (suc zero) a b c = omega arith
some_part n (suc (suc zero)) a b c = omega arith
some_part n (suc (suc (suc r))) a b c = absurd (omega arith)

-- a unit's window has samples in chroma
pub unit_has_chroma : (d : Deciding) (u : PredictionUnit) → IsDeciding d → 1 ≤ u.size → IsChromaSource (unit_window d.grid u)
unit_has_chroma d u h some = record {
  columns = omega (arith, mul-le 1 2 u.size d.grid.xbsep some h.columns.0);
  rows = omega (arith, mul-le 1 2 u.size d.grid.ybsep some h.rows.0);
}

pub dc_has : (d : Deciding) (u : PredictionUnit) → IsDeciding d → 1 ≤ u.size → HasDcSamples (dc_mode d u).block
dc_has d u h some =
    let columns : 2 ≤ u.size * d.grid.xbsep = (unit_has_chroma d u h some).columns in
    let rows : 2 ≤ u.size * d.grid.ybsep = (unit_has_chroma d u h some).rows in
    let some_columns : 1 ≤ u.size * d.grid.xbsep = omega (arith, columns) in
    let some_rows : 1 ≤ u.size * d.grid.ybsep = omega (arith, rows) in
    let across : 1 ≤ u.size * d.grid.xbsep / d.across_ratio = some_part (u.size * d.grid.xbsep) d.across_ratio columns h.across_ratio.0 h.across_ratio.1 in
    let down : 1 ≤ u.size * d.grid.ybsep / d.down_ratio = some_part (u.size * d.grid.ybsep) d.down_ratio rows h.down_ratio.0 h.down_ratio.1 in
    record {
      y = mean_over_sample d.y (unit_window d.grid u) h.y some_columns some_rows;
      u = mean_over_sample d.u (chroma_window d (unit_window d.grid u)) h.u across down;
      v = mean_over_sample d.v (chroma_window d (unit_window d.grid u)) h.v across down;
    }

pub choice_has : (d : Deciding) (u : PredictionUnit) → IsDeciding d → 1 ≤ u.size → HasDcSamples (choice_of d u).block
unfolding choice_of
choice_has d u h some =
    subst (λ (c : Choice). HasDcSamples c.block) (modes_are d u d.second)
    (cheaper_has (motion_mode d u d.second) (dc_mode d u) (motion_has d u d.second) (dc_has d u h some))

pub some_size : (split : ℕ) → split ≤ 2 → 1 ≤ unit_size split
some_size zero l = omega arith
some_size (suc zero) l = omega arith
some_size (suc (suc zero)) l = omega arith
some_size (suc (suc (suc split))) l = absurd (omega arith)

pub low_split : (d : Deciding) (sx sy : ℕ) → best_split d sx sy ≤ 2
unfolding best_split
low_split d sx sy = (is_first_least (split_cost d sx sy) 2).among

block_has : (d : Deciding) (sx sy i j : ℕ) → IsDeciding d → HasDcSamples (best_block d sx sy i j)
block_has d sx sy i j h =
    let split = best_split d sx sy in
    choice_has d (unit_in split sx sy (unit_of split i j)) h (some_size split (low_split d sx sy))

pub blocks_have : (d : Deciding) → IsDeciding d → All HasDcSamples (decided d).blocks
unfolding decided
blocks_have d h k dflt l =
    let f : ℕ → Block = block_by_rows d in
    let inside : k < 4 * d.down * (4 * d.across) = omega (arith, l, length-map-range_with_len f 0 (4 * d.down * (4 * d.across))) in
    rw (get_or-map-range_with_len f 0 (4 * d.down * (4 * d.across)) k k dflt inside (omega arith)) (block_has d _ _ _ _ h)
