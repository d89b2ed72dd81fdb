-- What can be written of a picture.
use Rattle.std.specs.Prelude.{◌≡◌, ℕ, List, true, Some, slice_get}
use Rattle.dirac_sequence_header.specs.declared.sequence.Sequence.{Sequence}
use Rattle.dirac_sequence_header.specs.Sizes.{chroma_height, chroma_width, picture_height}
use Rattle.dirac_parameters.specs.declared.transform.Transform.{Transform}
use Rattle.dirac_header.specs.Written.{FitFrom, IsWritableTransform}
use Rattle.dirac_coeffs.specs.declared.layout.BandLayout.{BandLayout}
use Rattle.dirac_coeffs.specs.declared.layout.CodedBand.{CodedBand}
use Rattle.dirac_coeffs.specs.Indices.{all_equal}
use Rattle.dirac_coeffs.specs.Written.{AreIndicesOf, is_zero_band}
use Rattle.dirac_picture.specs.declared.coded.CodedResidual.{CodedResidual}
use Rattle.dirac_picture.specs.Bands.{layout_of}
use Rattle.dirac_picture.specs.Fits.{IsResidual}

-- a band that can be written: indices that its codeblocks can have, and 0 alone where it has zeros alone
pub record IsWritableBand (layout : BandLayout) (b : CodedBand) : Type 0 where
  pub indices : AreIndicesOf layout b.index b.table.values b.indices
  pub zero : is_zero_band b.table.values ≡ true → b.index ≡ 0
  pub zeros : is_zero_band b.table.values ≡ true → b.indices ≡ all_equal layout 0

-- the bands of a plane of this size, with these transform parameters, can each be written
abbrev pub AreWritable : Transform → ℕ → ℕ → List CodedBand → Type 0
AreWritable t width height bands =
    (n : ℕ) (b : CodedBand) → slice_get bands n ≡ Some b → IsWritableBand (layout_of t width height n) b

-- a residual of this sequence whose bands can be written
pub record IsWritten (s : Sequence) (r : CodedResidual) : Type 0 where
  pub lawful : IsResidual s r
  pub transform : IsWritableTransform r.transform
  pub fits : FitFrom s.width (picture_height s) r.transform.depth 0 r.transform.counts
  pub y : AreWritable r.transform s.width (picture_height s) r.y
  pub u : AreWritable r.transform (chroma_width s) (chroma_height s) r.u
  pub v : AreWritable r.transform (chroma_width s) (chroma_height s) r.v
