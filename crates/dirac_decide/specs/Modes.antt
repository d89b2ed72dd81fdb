-- The modes of a unit, what they cost, and the first of least cost.
use Rattle.std.specs.Prelude.{ℕ, ℤ, pos, ◌+◌, ◌*◌, ◌/◌, ◌+ℤ◌, true, List, [], ◌∷◌, Option, Some, None}
use Rattle.std.specs.Int.{int_shr}
use Rattle.dirac_common.specs.declared.formats.Vector.{Vector}
use Rattle.dirac_upconvert.specs.HalfSamples.{IsSample}
use Rattle.dirac_block_table.specs.declared.block.Block.{Block}
use Rattle.dirac_block_table.specs.Tables.{grey}
use Rattle.dirac_costs.specs.declared.window.Window.{Window}
use Rattle.dirac_costs.specs.Bits.{bits_to_spell, bits_of_vector}
use Rattle.dirac_costs.specs.Least.{first_least}
use Rattle.dirac_costs.specs.Windows.{mean_over}
use Rattle.dirac_decide.specs.Deciding.{Deciding, View}
use Rattle.dirac_decide.specs.Units.{best_vector, unit_distortion, least_cost, samples_led_to, unit_window}
use Rattle.dirac_decide.specs.declared.prediction_unit.PredictionUnit.{PredictionUnit}
use Rattle.dirac_decide.specs.declared.choice.Choice.{Choice}

-- blocks predicted from reference 1, from reference 2, from both, and by DC values
abbrev pub from_first : Vector → Block
from_first v = record grey { ref1 = true; v1 = v }

abbrev pub from_second : Vector → Block
from_second v = record grey { ref2 = true; v2 = v }

abbrev pub from_both : Vector → Vector → Block
from_both v w = record grey { ref1 = true; ref2 = true; v1 = v; v2 = w }

abbrev pub from_dc : ℤ → ℤ → ℤ → Block
from_dc y u v = record grey { dc_y = y; dc_u = u; dc_v = v }

-- mode 1: reference 1 with its best vector
abbrev pub first_mode : Deciding → PredictionUnit → Choice
first_mode d u = record { cost = least_cost d d.first u; block = from_first (best_vector d d.first u) }

-- mode 2: reference 2 with its best vector
abbrev pub second_mode : Deciding → View → PredictionUnit → Choice
second_mode d r u = record { cost = least_cost d r u; block = from_second (best_vector d r u) }

-- the mean of two samples, halves up
abbrev pub mean_of_samples : ℤ → ℤ → ℤ
mean_of_samples a b = int_shr ((a +ℤ b) +ℤ pos 1) 1

-- the means of two references' samples
abbrev pub means_of_samples : (ℕ → ℕ → ℤ) → (ℕ → ℕ → ℤ) → ℕ → ℕ → ℤ
means_of_samples f g x y = mean_of_samples (f x y) (g x y)

-- how far the source is from the means of the samples to which two vectors lead, and the bits of both
abbrev pub both_cost : Deciding → View → PredictionUnit → Vector → Vector → ℕ
both_cost d r u v w =
    unit_distortion d u (means_of_samples (samples_led_to d.precision d.first.up v) (samples_led_to d.precision r.up w))
    + d.bias * (bits_of_vector v + bits_of_vector w)

-- mode 3: both references with their best vectors
abbrev pub both_mode : Deciding → View → PredictionUnit → Choice
both_mode d r u =
    let v = best_vector d d.first u in
    let w = best_vector d r u in
    record { cost = both_cost d r u v w; block = from_both v w }

-- a window of luma in a chroma plane
abbrev pub chroma_window : Deciding → Window → Window
chroma_window d w = record {
  x = w.x / d.across_ratio;
  y = w.y / d.down_ratio;
  columns = w.columns / d.across_ratio;
  rows = w.rows / d.down_ratio;
}

-- the DC values of a unit: the mean of each plane in its window
abbrev pub dc_block : Deciding → Window → Block
dc_block d w = from_dc (mean_over d.y w) (mean_over d.u (chroma_window d w)) (mean_over d.v (chroma_window d w))

-- how many bits spell the DC values of a block
abbrev pub bits_of_dc : Block → ℕ
bits_of_dc b = bits_to_spell b.dc_y + bits_to_spell b.dc_u + bits_to_spell b.dc_v

-- how far the source is from a block's DC value, and the bits of all three
abbrev pub dc_cost : Deciding → PredictionUnit → Block → ℕ
dc_cost d u b = unit_distortion d u (λ x y. b.dc_y) + d.bias * bits_of_dc b

-- mode 4: the DC values
abbrev pub dc_mode : Deciding → PredictionUnit → Choice
dc_mode d u = let b = dc_block d (unit_window d.grid u) in record { cost = dc_cost d u b; block = b }

-- the modes behind the first, in their order: with one reference and with two
abbrev pub other_modes : Deciding → PredictionUnit → Option View → List Choice
other_modes d u None = dc_mode d u ∷ []
other_modes d u (Some r) = second_mode d r u ∷ both_mode d r u ∷ dc_mode d u ∷ []

-- the first mode of least cost
unfoldable pub choice_of : Deciding → PredictionUnit → Choice
choice_of d u = first_least (λ (c : Choice). c.cost) (first_mode d u) (other_modes d u d.second)

-- how many references there are
abbrev pub count_of_references : Option View → ℕ
count_of_references None = 1
count_of_references (Some r) = 2

-- a block whose DC values are samples
pub record HasDcSamples (b : Block) : Type 0 where
  pub y : IsSample b.dc_y
  pub u : IsSample b.dc_u
  pub v : IsSample b.dc_v
