-- The predictions of the planes of an inter picture, and what they are taken away from.
use Rattle.std.specs.Prelude.{◌≡◌, ℤ, ◌-ℤ◌, ◌≤◌, List, length}
use Rattle.std.specs.List.{All}
use Rattle.std.specs.Simd.Lanes.{zip2}
use Rattle.dirac_common.specs.declared.formats.Component.{Component}
use Rattle.dirac_common.specs.declared.formats.Component.TheVariants as component
use Rattle.dirac_common.specs.declared.limits.TheConstants.{LARGEST_SIDE}
use Rattle.dirac_common.specs.declared.picture.Picture.{Picture}
use Rattle.dirac_common.specs.Table.{Table}
use Rattle.dirac_upconvert.specs.HalfSamples.{IsSample}
use Rattle.dirac_analysis.specs.Fits.{AreDifferences}
use Rattle.dirac_encode_planes.specs.declared.predictions.Predictions.{Predictions}

-- those of one plane, by rows
abbrev pub values_of : Predictions → Component → List ℤ
values_of ps component.Y = ps.y.values
values_of ps component.U = ps.u.values
values_of ps component.V = ps.v.values

-- a plane of samples, of a size that can be analysed
pub record IsCodablePlane (plane : Table) : Type 0 where
  pub across : plane.width ≤ LARGEST_SIDE
  pub down : plane.height ≤ LARGEST_SIDE
  pub samples : All IsSample plane.values

-- a picture of such planes
pub record IsCodableSource (p : Picture) : Type 0 where
  pub y : IsCodablePlane p.y
  pub u : IsCodablePlane p.u
  pub v : IsCodablePlane p.v

-- a plane less values by rows, as many as it has samples; nothing is clipped
abbrev pub less_values : Table → List ℤ → Table
less_values plane values = record {
  width = plane.width;
  height = plane.height;
  values = zip2 (λ v other. v -ℤ other) plane.values values;
}

-- predictions that can be taken away from a plane: as many as it has samples, and samples themselves, so that what is
-- left are differences of samples
pub record IsPredictedBy (plane : Table) (values : List ℤ) : Type 0 where
  pub len : length values ≡ length plane.values
  pub samples : All IsSample values
  pub left : AreDifferences (less_values plane values).values

-- those of the planes of a picture
pub record IsPicturePredictedBy (p : Picture) (ps : Predictions) : Type 0 where
  pub y : IsPredictedBy p.y ps.y.values
  pub u : IsPredictedBy p.u ps.u.values
  pub v : IsPredictedBy p.v ps.v.values
