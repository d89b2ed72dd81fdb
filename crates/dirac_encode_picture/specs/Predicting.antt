-- What the planes of an inter picture are predicted by and from, and that they are.
use Rattle.std.specs.Prelude.{◌≡◌, ℤ, List, Some, IsSome}
use Rattle.dirac_common.specs.declared.formats.Component.{Component}
use Rattle.dirac_rebuild.specs.Moved.{IsMoved}
use Rattle.dirac_motion.specs.Lent.{AreLent, first_of, second_of}
use Rattle.dirac_encode_picture.specs.declared.predictions.Predicting.{Predicting}
use Rattle.dirac_encode_planes.specs.declared.predictions.Predictions.{Predictions}
use Rattle.dirac_reconstruct.specs.Predicted.{ArePredictions, IsPredictionOfPlane}

-- motion of a sequence, with as many references of it as the motion has
pub record CanBePredicted (f : Predicting) : Type 0 where
  pub moved : IsMoved f.moved
  pub lent : AreLent f.moved.sequence.now f.references.now
  pub two : f.moved.motion.now.blocks.refs ≡ 2 → IsSome (second_of f.references.now)

-- these values are predicted for a plane of an inter picture
abbrev pub IsPredicted : Predicting → Component → List ℤ → Type 0
IsPredicted f component values =
    IsPredictionOfPlane f.moved.sequence.now (Some (first_of f.references.now)) (second_of f.references.now)
    f.moved.motion.now
    component values

-- these values are predicted for the planes of an inter picture
abbrev pub PlanesArePredicted : Predicting → Predictions → Type 0
PlanesArePredicted f ps =
    ArePredictions f.moved.sequence.now (Some (first_of f.references.now)) (second_of f.references.now)
    f.moved.motion.now ps
