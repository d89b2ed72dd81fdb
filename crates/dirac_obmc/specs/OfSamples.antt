-- Planes that are predicted from samples alone.
use Rattle.std.specs.Prelude.{◌≡◌, ℕ, pos, ◌<◌}
use Rattle.std.specs.List.{All}
use Rattle.std.specs.Option.{ForSome}
use Rattle.dirac_parameters.specs.declared.prediction.Prediction.{Prediction}
use Rattle.dirac_block_table.specs.Tables.{block_at}
use Rattle.dirac_upconvert.specs.HalfSamples.{IsSample}
use Rattle.dirac_obmc.specs.Compensation.{Compensation, IsCompensation, blocks_across, blocks_down, component_dc}
use Rattle.dirac_obmc.specs.Compensation.{predicted_at}
use Rattle.dirac_obmc.specs.Compensation.{predicted_plane}

-- the weights of a picture that writes none: both references count alike
pub record HasDefaultWeights (p : Prediction) : Type 0 where
  pub weight_bits : p.weight_bits ≡ 1
  pub weight1 : p.weight1 ≡ pos 1
  pub weight2 : p.weight2 ≡ pos 1

-- references of samples, DC values that are samples, and the default weights
pub record IsOfSamples (m : Compensation) : Type 0 where
  pub weights : HasDefaultWeights m.prediction
  pub first : All IsSample m.up1.table.values
  pub second : ForSome m.up2 (λ u. All IsSample u.table.values)
  pub dc : (i j : ℕ) → i < blocks_across m → j < blocks_down m
      → IsSample (component_dc m.component (block_at m.blocks i j))

-- what is predicted from samples alone is a sample
abbrev pub SamplesPredictSamples : Type 0
SamplesPredictSamples =
    (m : Compensation) → IsCompensation m → IsOfSamples m → (x y : ℕ) → x < m.width → y < m.height
    → IsSample (predicted_at m x y)

-- each value of the prediction of a plane from references of samples is a sample
abbrev pub PlanesOfSamples : Type 0
PlanesOfSamples = (m : Compensation) → IsCompensation m → IsOfSamples m → All IsSample (predicted_plane m).values
