-- Bands that fit a transform are those that a plane is rebuilt from.
use Rattle.std.proofs.Common.{ℕ, ◌+◌, ◌/◌, ◌≤◌, List, arith}
use Rattle.std.proofs.lemmas.Option.{slice_get_within}
use Rattle.dirac_sequence_header.specs.Lawful.{IsSequence}
use Rattle.dirac_sequence_header.proofs.Heights.{picture_size}
use Rattle.dirac_sequence_header.specs.Sizes.{picture_height}
use Rattle.dirac_sequence_header.specs.declared.sequence.Sequence.{Sequence}
use Rattle.dirac_common.specs.declared.formats.Component.{Component}
use Rattle.dirac_common.specs.declared.formats.Component.TheVariants as component
use Rattle.dirac_picture.specs.declared.coded.CodedResidual.{CodedResidual}
use Rattle.dirac_content.specs.Content.{width_of, height_of, bands_of}
use Rattle.dirac_parameters.specs.declared.transform.Transform.{Transform}
use Rattle.dirac_coeffs.specs.declared.layout.CodedBand.{CodedBand}
use Rattle.dirac_picture.specs.Bands.{layout_of}
use Rattle.dirac_picture.specs.Fits as picture
use Rattle.dirac_picture.proofs.Lawful.{layout_lawful}
use Rattle.dirac_synthesis.specs.Fits as plane

pub bands_of_plane : (t : Transform) (width height : ℕ) (bands : List CodedBand) → picture.IsLayout t → picture.AreBandsOf t width height bands → plane.AreRestorableBands t width height bands
unfolding layout_of
bands_of_plane t width height bands layout fits = record {
  count = fits.count;
  each = λ n b there.
      let one = fits.each n b there in
      let level : (n + 2) / 3 ≤ t.depth = omega (arith, fits.count, slice_get_within bands n b there) in
      record {
        index = one.index;
        indices = record { across = layout.across ((n + 2) / 3) level; down = layout.down ((n + 2) / 3) level; count = one.count; each = one.each };
        across = one.width;
        down = one.height;
        small = one.small;
      };
}

-- those of each plane of a picture's residual
pub bands_of_part : (s : Sequence) (r : CodedResidual) (p : Component) → IsSequence s → picture.IsResidual s r → plane.AreRestorableBands r.transform (width_of s p) (height_of s p) (bands_of r p)
bands_of_part s r p lawful fits = bands p
  where
    layout : picture.IsLayout r.transform
    layout =
        let size = picture_size s lawful in
        layout_lawful s.width (picture_height s) r.transform size.1 (omega (arith, size.3)) fits.transform

    bands : (o : Component) → plane.AreRestorableBands r.transform (width_of s o) (height_of s o) (bands_of r o)
    bands component.Y = bands_of_plane r.transform s.width (picture_height s) r.y layout fits.y
    bands component.U = bands_of_plane r.transform (width_of s component.U) (height_of s component.U) r.u layout fits.u
    bands component.V = bands_of_plane r.transform (width_of s component.V) (height_of s component.V) r.v layout fits.v
