-- The bits of the subbands of each plane, written apart.
use Rattle.std.specs.Prelude.{◌≡◌, ℕ, Bool, List, [], ◌++◌, take, slice_get, Some}
use Rattle.dirac_common.specs.Bits.{bits_of}
use Rattle.dirac_common.specs.declared.formats.Component.{Component}
use Rattle.dirac_common.specs.declared.formats.Component.TheVariants as component
use Rattle.dirac_bits.specs.Writing.{up_to_byte}
use Rattle.dirac_parameters.specs.declared.transform.Transform.{Transform}
use Rattle.dirac_coeffs.specs.declared.layout.CodedBand.{CodedBand}
use Rattle.dirac_coeffs.specs.Written.{with_band}
use Rattle.dirac_sequence_header.specs.declared.sequence.Sequence.{Sequence}
use Rattle.dirac_sequence_header.specs.Sizes.{plane_height, plane_width}
use Rattle.dirac_picture.specs.declared.coded.CodedResidual.{CodedResidual}
use Rattle.dirac_picture.specs.declared.texts.Texts.{Texts}
use Rattle.dirac_picture.specs.Bands.{bands_of, layout_of, parent_values}
use Rattle.dirac_picture.specs.Written.{with_plane}

-- the bits of the bands of a plane, with bits 0 up to the end of the last byte
abbrev pub text_of_plane : Sequence → CodedResidual → Component → List Bool
text_of_plane s r component =
    up_to_byte (with_plane r.transform (plane_width s component) (plane_height s component) (bands_of r component) [])

-- the bits of the first n bands of a plane of this size, with bits 0 up to the end of the last byte
abbrev pub text_before : Transform → ℕ → ℕ → List CodedBand → ℕ → List Bool
text_before t width height bands n = up_to_byte (with_plane t width height (take n bands) [])

-- these are the bits of band n of a plane of this size, with bits 0 up to the end of the last byte
abbrev pub IsBandText : Transform → ℕ → ℕ → List CodedBand → ℕ → List Bool → Type 0
IsBandText t width height bands n bits =
    (b : CodedBand) → slice_get bands n ≡ Some b
    → bits ≡ up_to_byte (with_band (layout_of t width height n) (parent_values (take n bands)) b [])

-- these are the bits of band n of a plane of a residual, with bits 0 up to the end of the last byte
abbrev pub IsTextOf : Sequence → CodedResidual → Component → ℕ → List Bool → Type 0
IsTextOf s r component n bits =
    IsBandText r.transform (plane_width s component) (plane_height s component) (bands_of r component) n bits

-- the bytes of all planes
pub record AreTexts (s : Sequence) (r : CodedResidual) (x : Texts) : Type 0 where
  pub y : bits_of x.y.items ≡ text_of_plane s r component.Y
  pub u : bits_of x.u.items ≡ text_of_plane s r component.U
  pub v : bits_of x.v.items ≡ text_of_plane s r component.V

-- the bits with those of all planes behind them, which begin at a byte
abbrev pub with_all_planes : List Bool → List Bool → List Bool → List Bool → List Bool
with_all_planes bits y u v = ((up_to_byte bits ++ y) ++ u) ++ v
