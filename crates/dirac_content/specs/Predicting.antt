-- Pictures predicted from references that are looked up already.
use Rattle.std.specs.Prelude.{◌≡◌, Option}
use Rattle.dirac_common.specs.declared.formats.Kind.TheVariants.{Inter}
use Rattle.dirac_common.specs.declared.picture.Picture.{Picture}
use Rattle.dirac_common.specs.Table.{Table}
use Rattle.dirac_sequence_header.specs.declared.sequence.Sequence.{Sequence}
use Rattle.dirac_header.specs.declared.header.PictureHeader.{PictureHeader}
use Rattle.dirac_upconvert.specs.SubSamples.{Up}
use Rattle.dirac_common.specs.declared.formats.Component.{Component}
use Rattle.dirac_common.specs.declared.formats.Component.TheVariants as component
use Rattle.dirac_picture.specs.declared.coded.CodedMotion.{CodedMotion}
use Rattle.dirac_picture.specs.declared.coded.CodedResidual.{CodedResidual}
use Rattle.dirac_synthesis.specs.Residual.{clipped, with_prediction}
use Rattle.dirac_content.specs.Content.{height_of, intra_samples, predicted_among, residual_among, width_of}

-- an upconverted plane of this part's size
abbrev pub IsUpOfPart : Sequence → Component → Up → Type 0
IsUpOfPart s component u = (u.width ≡ width_of s component) × (u.height ≡ height_of s component)

-- the samples of a plane of an inter picture with these references
abbrev pub inter_plane : Sequence → Option Picture → Option Picture → CodedMotion → Option CodedResidual → Component
    → Table
inter_plane s first second m coded component =
    clipped (with_prediction (residual_among s Inter component coded) (predicted_among s m first second component))

-- an inter picture with these references
abbrev pub inter_picture : Sequence → Option Picture → Option Picture → PictureHeader → CodedMotion
    → Option CodedResidual → Picture
inter_picture s first second head m coded = record {
  number = head.number;
  y = inter_plane s first second m coded component.Y;
  u = inter_plane s first second m coded component.U;
  v = inter_plane s first second m coded component.V;
}

-- an intra picture
abbrev pub intra_picture : Sequence → PictureHeader → Option CodedResidual → Picture
intra_picture s head coded = record {
  number = head.number;
  y = intra_samples s coded component.Y;
  u = intra_samples s coded component.U;
  v = intra_samples s coded component.V;
}
