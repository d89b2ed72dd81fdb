-- The picture that a coded picture stands for.
use Rattle.std.specs.Prelude.{◌≡◌, ℕ, ℤ, IsTrue, List, [], Option, None, Some, option_map}
use Rattle.std.specs.List.{All}
use Rattle.std.specs.Option.{ForSome}
use Rattle.dirac_common.specs.declared.formats.Kind.{Kind}
use Rattle.dirac_common.specs.declared.formats.Kind.TheVariants.{Intra, Inter}
use Rattle.dirac_common.specs.declared.picture.Picture.{Picture}
use Rattle.dirac_common.specs.Table.{Table}
use Rattle.dirac_sequence_header.specs.declared.sequence.Sequence.{Sequence}
use Rattle.dirac_sequence_header.specs.Sizes.{chroma_height, chroma_width, picture_height, plane_height, plane_width}
use Rattle.dirac_header.specs.declared.header.PictureHeader.{PictureHeader}
use Rattle.dirac_upconvert.specs.HalfSamples.{IsSample}
use Rattle.dirac_upconvert.specs.SubSamples.{Up}
use Rattle.dirac_common.specs.declared.formats.Component.{Component}
use Rattle.dirac_common.specs.declared.formats.Component.TheVariants as component
use Rattle.dirac_obmc.specs.Compensation.{Compensation, predicted_plane}
use Rattle.dirac_refs.specs.References.{listed}
use Rattle.dirac_picture.specs.declared.coded.CodedMotion.{CodedMotion}
use Rattle.dirac_picture.specs.declared.coded.CodedPicture.{CodedPicture}
use Rattle.dirac_picture.specs.declared.coded.CodedResidual.{CodedResidual}
pub use Rattle.dirac_picture.specs.Bands.{bands_of}
use Rattle.dirac_picture.specs.Grammar.{are_listed}
use Rattle.dirac_synthesis.specs.Residual.{residual, clipped, with_prediction}
pub use Rattle.dirac_refs.specs.Halves.{up_of}
pub use Rattle.dirac_synthesis.specs.Zeros.{zeros}

-- the columns of a plane
abbrev pub width_of : Sequence → Component → ℕ
width_of s component = plane_width s component

-- the rows of a plane of a sequence
abbrev pub height_of : Sequence → Component → ℕ
height_of s component = plane_height s component

-- a plane of a picture
abbrev pub plane_of : Picture → Component → Table
plane_of p component.Y = p.y
plane_of p component.U = p.u
plane_of p component.V = p.v

-- the residual of a plane; where none is coded it is 0
abbrev pub residual_among : Sequence → Kind → Component → Option CodedResidual → Table
residual_among s kind component None = zeros (width_of s component) (height_of s component)
residual_among s kind component (Some r) =
    residual r.transform kind (bands_of r component) (width_of s component) (height_of s component)

-- the listed picture that a header names
abbrev pub named : List Picture → Option ℕ → Option Picture
named refs None = None
named refs (Some number) = listed refs number

-- what a plane is predicted from, with these upconverted references
abbrev pub compensated : Sequence → CodedMotion → Up → Option Up → Component → Compensation
compensated s m first second component = record {
  blocks = m.blocks;
  prediction = m.prediction;
  up1 = first;
  up2 = second;
  component = component;
  chroma = s.chroma;
  width = width_of s component;
  height = height_of s component;
}

-- what a plane is predicted from, with these references
abbrev pub compensation : Sequence → CodedMotion → Picture → Option Picture → Component → Compensation
compensation s m first second component =
    compensated s m (up_of (plane_of first component)) (option_map (λ (p : Picture). up_of (plane_of p component))
    second) component

-- the predictions of a plane, by rows; an inter picture has a first reference
abbrev pub predicted_among : Sequence → CodedMotion → Option Picture → Option Picture → Component → List ℤ
predicted_among s m None second component = []
predicted_among s m (Some first) second component = (predicted_plane (compensation s m first second component)).values

-- the samples of a plane of an intra picture: its residual, clipped
abbrev pub intra_samples : Sequence → Option CodedResidual → Component → Table
intra_samples s coded component = clipped (residual_among s Intra component coded)

-- the samples of a plane of an inter picture: its residual and what is predicted, clipped
abbrev pub inter_samples : Sequence → List Picture → PictureHeader → CodedMotion → Option CodedResidual → Component
    → Table
inter_samples s refs head m coded component =
    clipped (with_prediction (residual_among s Inter component coded)
    (predicted_among s m (named refs head.ref1) (named refs head.ref2) component))

-- the samples of a plane of an intra or inter picture: just an inter picture is predicted
abbrev pub samples_from : Sequence → List Picture → PictureHeader → Option CodedMotion → Option CodedResidual
    → Component → Table
samples_from s refs head None coded component = intra_samples s coded component
samples_from s refs head (Some m) coded component = inter_samples s refs head m coded component

-- the samples of a plane of a coded picture
abbrev pub plane_samples : Sequence → List Picture → CodedPicture → Component → Table
plane_samples s refs coded component = samples_from s refs coded.header coded.motion coded.residual component

-- the picture that a coded picture stands for, with these pictures listed
abbrev pub rebuilt : Sequence → List Picture → CodedPicture → Picture
rebuilt s refs coded = record {
  number = coded.header.number;
  y = plane_samples s refs coded component.Y;
  u = plane_samples s refs coded component.U;
  v = plane_samples s refs coded component.V;
}

-- a plane of this size whose samples have eight bits
pub record IsPlane (width height : ℕ) (t : Table) : Type 0 where
  pub across : t.width ≡ width
  pub down : t.height ≡ height
  pub samples : All IsSample t.values

-- a picture of this sequence
pub record IsPicture (s : Sequence) (p : Picture) : Type 0 where
  pub y : IsPlane s.width (picture_height s) p.y
  pub u : IsPlane (chroma_width s) (chroma_height s) p.u
  pub v : IsPlane (chroma_width s) (chroma_height s) p.v

-- the references that a header names are listed, and pictures of this sequence
pub record AreReferences (s : Sequence) (refs : List Picture) (head : PictureHeader) : Type 0 where
  pub listed : IsTrue (are_listed refs head)
  pub first : ForSome (named refs head.ref1) (IsPicture s)
  pub second : ForSome (named refs head.ref2) (IsPicture s)
