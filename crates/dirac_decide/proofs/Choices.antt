-- Modes in the words of the code.
use Rattle.std.proofs.Common.{◌≡◌, ℕ, Option, Some, None, refl}
use Rattle.dirac_common.specs.declared.formats.Vector.{Vector}
use Rattle.dirac_block_table.specs.declared.block.Block.{Block}
use Rattle.dirac_costs.specs.Least.{first_least}
use Rattle.dirac_decide.specs.Choosing.{cheaper, costing, motion_mode}
use Rattle.dirac_decide.specs.Deciding.{Deciding, View}
use Rattle.dirac_decide.specs.Modes.{both_cost, both_mode, dc_block, dc_cost, dc_mode, first_mode, from_both, from_second, other_modes, second_mode}
use Rattle.dirac_decide.specs.Units.{best_vector, least_cost, unit_window}
use Rattle.dirac_decide.specs.declared.choice.Choice.{Choice}
use Rattle.dirac_decide.specs.declared.prediction_unit.PredictionUnit.{PredictionUnit}

-- both references with their best vectors
pub both_is : (d : Deciding) (r : View) (u : PredictionUnit) (v w : Vector) (b : Block) → v ≡ best_vector d d.first u → w ≡ best_vector d r u → b ≡ from_both v w → (a : Choice)
    → cheaper a (costing (both_cost d r u v w) b) ≡ cheaper a (both_mode d r u)
both_is d r u v w b e f g a = rw (g, e, f) refl

-- reference 2 with its best vector
pub second_is : (d : Deciding) (r : View) (u : PredictionUnit) (v : Vector) (b : Block) (cost : ℕ) → v ≡ best_vector d r u → cost ≡ least_cost d r u → b ≡ from_second v → (a : Choice)
    → cheaper a (costing cost b) ≡ cheaper a (second_mode d r u)
second_is d r u v b cost e f g a = rw (g, e, f) refl

-- the DC values
pub dc_is : (d : Deciding) (u : PredictionUnit) (b : Block) → b ≡ dc_block d (unit_window d.grid u) → (a : Choice)
    → cheaper a (costing (dc_cost d u b) b) ≡ cheaper a (dc_mode d u)
dc_is d u b e a = rw e refl

-- the modes one after another
pub modes_are : (d : Deciding) (u : PredictionUnit) (o : Option View)
    → cheaper (motion_mode d u o) (dc_mode d u) ≡ first_least (λ (c : Choice). c.cost) (first_mode d u) (other_modes d u o)
modes_are d u None = refl
modes_are d u (Some r) = refl
