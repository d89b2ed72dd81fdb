-- The best so far, from candidate to candidate and from mode to mode.
use Rattle.std.specs.Prelude.{◌≡◌, ℕ, ◌≤◌, ◌^◌, nat_lt, if◌then◌else◌, Option, Some, None}
use Rattle.dirac_vectors.specs.Predictions.{IsShortVector}
use Rattle.dirac_block_table.specs.declared.block.Block.{Block}
use Rattle.dirac_costs.specs.Least.{first_least_to}
use Rattle.dirac_decide.specs.Deciding.{Deciding, View}
use Rattle.dirac_decide.specs.Modes.{both_mode, first_mode, second_mode}
use Rattle.dirac_decide.specs.Units.{candidate, candidate_cost}
use Rattle.dirac_decide.specs.declared.best.Best.{Best}
use Rattle.dirac_decide.specs.declared.choice.Choice.{Choice}
use Rattle.dirac_decide.specs.declared.prediction_unit.PredictionUnit.{PredictionUnit}

-- the first of least cost among candidates 0 to n, with its cost
pub record IsBestTo (d : Deciding) (r : View) (u : PredictionUnit) (n : ℕ) (b : Best) : Type 0 where
  pub vector : b.vector ≡ candidate r u (first_least_to (candidate_cost d r u) n)
  pub cost : b.cost ≡ candidate_cost d r u (first_least_to (candidate_cost d r u) n)
  pub of_16_bits : IsShortVector b.vector
  pub at_most : b.cost ≤ 2 ^ 29

-- this block at this cost
abbrev pub costing : ℕ → Block → Choice
costing cost block = record { cost = cost; block = block }

-- the first of two, unless the second costs less
abbrev pub cheaper : Choice → Choice → Choice
cheaper a b = if nat_lt b.cost a.cost then b else a

-- a choice, unless reference 2 or both cost less
abbrev pub with_second : Deciding → View → PredictionUnit → Choice → Choice
with_second d r u choice = cheaper (cheaper choice (second_mode d r u)) (both_mode d r u)

-- the first of the modes with motion of least cost
abbrev pub motion_mode : Deciding → PredictionUnit → Option View → Choice
motion_mode d u None = first_mode d u
motion_mode d u (Some r) = with_second d r u (first_mode d u)
