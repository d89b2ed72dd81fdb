-- What is predicted for the planes of an inter picture.
use Rattle.std.specs.Prelude.{◌≡◌, ℤ, ◌*◌, List, length, Option}
use Rattle.dirac_common.specs.declared.formats.Component.{Component}
use Rattle.dirac_common.specs.declared.formats.Component.TheVariants as component
use Rattle.dirac_common.specs.declared.picture.Picture.{Picture}
use Rattle.dirac_sequence_header.specs.declared.sequence.Sequence.{Sequence}
use Rattle.dirac_picture.specs.declared.coded.CodedMotion.{CodedMotion}
use Rattle.dirac_content.specs.Content.{height_of, predicted_among, width_of}
use Rattle.dirac_encode_planes.specs.declared.predictions.Predictions.{Predictions}

-- what is predicted for a plane of a picture from these references, by rows: a value for each sample
pub record IsPredictionOfPlane (s : Sequence) (first second : Option Picture) (m : CodedMotion) (component : Component)
    (values : List ℤ) : Type 0 where
  pub same : values ≡ predicted_among s m first second component
  pub len : length values ≡ width_of s component * height_of s component

-- what is predicted for its planes
pub record ArePredictions (s : Sequence) (first second : Option Picture) (m : CodedMotion)
    (ps : Predictions) : Type 0 where
  pub y : IsPredictionOfPlane s first second m component.Y ps.y.values
  pub u : IsPredictionOfPlane s first second m component.U ps.u.values
  pub v : IsPredictionOfPlane s first second m component.V ps.v.values
