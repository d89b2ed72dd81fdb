-- What every coded picture of a sequence has.
use Rattle.std.specs.Prelude.{◌≡◌, ℕ, ◌+◌, ◌≤◌, true, false, IsTrue, List, length, nat_le, slice_get, unsigned_abs}
use Rattle.std.specs.Prelude.{Option, None, Some, is_some}
use Rattle.dirac_common.specs.declared.limits.TheConstants.{LARGEST_SIDE, MOST_CODEBLOCKS}
use Rattle.dirac_common.specs.Limits.{IsDepth, IsWavelet}
use Rattle.dirac_common.specs.declared.formats.Chroma.{Chroma}
use Rattle.dirac_bands.specs.Geometry.{band_length}
use Rattle.dirac_sequence_header.specs.declared.sequence.Sequence.{Sequence}
use Rattle.dirac_sequence_header.specs.Sizes.{chroma_height, chroma_width, picture_height}
use Rattle.dirac_header.specs.declared.header.PictureHeader.{PictureHeader}
use Rattle.dirac_parameters.specs.declared.prediction.Prediction.{Prediction}
use Rattle.dirac_parameters.specs.declared.transform.Transform.{Transform}
use Rattle.dirac_header.specs.Prediction.{is_grid}
use Rattle.dirac_header.specs.Codes.{references_of}
use Rattle.dirac_block_table.specs.Tables.{IsBlockTable}
use Rattle.dirac_coeffs.specs.declared.layout.CodedBand.{CodedBand}
use Rattle.dirac_coeffs.specs.Grammar.{IsCodedBand}
use Rattle.dirac_picture.specs.declared.coded.CodedMotion.{CodedMotion}
use Rattle.dirac_picture.specs.declared.coded.CodedPicture.{CodedPicture}
use Rattle.dirac_picture.specs.declared.coded.CodedResidual.{CodedResidual}
use Rattle.dirac_picture.specs.Bands.{band_count, counts_at, layout_of}
use Rattle.dirac_picture.specs.Grammar.{is_intra, superblocks_over}

-- a count of codeblocks is from 1 to that many
abbrev pub IsCount : ℕ → ℕ → Type 0
IsCount count most = (1 ≤ count) × (count ≤ most)

-- transform parameters of a picture of this size: at each level at most as many codeblocks as luma's bands have columns
-- and rows, and codeblock mode 0 or 1
pub record IsTransform (width height : ℕ) (t : Transform) : Type 0 where
  pub wavelet : IsWavelet t.wavelet
  pub depth : IsDepth t.depth
  pub levels : length t.counts ≡ t.depth + 1
  pub across : (level : ℕ) → level ≤ t.depth → IsCount (counts_at t.counts level).0 (band_length width t.depth level)
  pub down : (level : ℕ) → level ≤ t.depth → IsCount (counts_at t.counts level).1 (band_length height t.depth level)
  pub mode : t.mode ≤ 1

-- a layout of bands: its levels, at each from 1 to 8,192 codeblocks across and down, and codeblock mode 0 or 1
pub record IsLayout (t : Transform) : Type 0 where
  pub depth : IsDepth t.depth
  pub levels : length t.counts ≡ t.depth + 1
  pub across : (level : ℕ) → level ≤ t.depth → IsCount (counts_at t.counts level).0 MOST_CODEBLOCKS
  pub down : (level : ℕ) → level ≤ t.depth → IsCount (counts_at t.counts level).1 MOST_CODEBLOCKS
  pub mode : t.mode ≤ 1

-- a plane's size
pub record IsPlaneSize (width height : ℕ) : Type 0 where
  pub across : (1 ≤ width) × (width ≤ LARGEST_SIDE)
  pub down : (1 ≤ height) × (height ≤ LARGEST_SIDE)

-- each of these bands is what its place in a plane of this size asks for
abbrev pub AreBands : Transform → ℕ → ℕ → List CodedBand → Type 0
AreBands t width height bands =
    (n : ℕ) (b : CodedBand) → slice_get bands n ≡ Some b → IsCodedBand (layout_of t width height n) b

-- the bands of a plane of this size, all of them
pub record AreBandsOf (t : Transform) (width height : ℕ) (bands : List CodedBand) : Type 0 where
  pub count : length bands ≡ band_count t.depth
  pub each : AreBands t width height bands

-- the residual of a picture of this sequence
pub record IsResidual (s : Sequence) (r : CodedResidual) : Type 0 where
  pub transform : IsTransform s.width (picture_height s) r.transform
  pub y : AreBandsOf r.transform s.width (picture_height s) r.y
  pub u : AreBandsOf r.transform (chroma_width s) (chroma_height s) r.u
  pub v : AreBandsOf r.transform (chroma_width s) (chroma_height s) r.v

-- an intra picture has a residual
abbrev pub HasResidual : ℕ → Sequence → Option CodedResidual → Type 0
HasResidual code s None = is_intra code ≡ false
HasResidual code s (Some r) = IsResidual s r

-- prediction parameters that a picture of this chroma format may have
pub record IsPrediction (chroma : Chroma) (p : Prediction) : Type 0 where
  pub grid : IsTrue (is_grid chroma p.grid)
  pub precision : p.precision ≤ 3
  pub bits : (1 ≤ p.weight_bits) × (p.weight_bits ≤ 8)
  pub weights : (unsigned_abs p.weight1 ≤ 255) × (unsigned_abs p.weight2 ≤ 255)

-- the prediction of an inter picture of this parse code: its block table covers the picture, with as many references
pub record IsMotion (code : ℕ) (s : Sequence) (m : CodedMotion) : Type 0 where
  pub prediction : IsPrediction s.chroma m.prediction
  pub across : m.blocks.across ≡ superblocks_over s.width m.prediction.grid.xbsep
  pub down : m.blocks.down ≡ superblocks_over (picture_height s) m.prediction.grid.ybsep
  pub refs : m.blocks.refs ≡ references_of code
  pub table : IsBlockTable m.blocks

-- just inter pictures are predicted
abbrev pub HasMotion : ℕ → Sequence → Option CodedMotion → Type 0
HasMotion code s None = is_intra code ≡ true
HasMotion code s (Some m) = (is_intra code ≡ false) × IsMotion code s m

-- a header names just the references of its code
pub record NamesReferences (code : ℕ) (head : PictureHeader) : Type 0 where
  pub first : is_some head.ref1 ≡ nat_le 1 (references_of code)
  pub second : is_some head.ref2 ≡ nat_le 2 (references_of code)

-- a coded picture of this parse code fits the sequence
pub record FitsSequence (code : ℕ) (s : Sequence) (p : CodedPicture) : Type 0 where
  pub same_code : p.code ≡ code
  pub header : NamesReferences code p.header
  pub motion : HasMotion code s p.motion
  pub residual : HasResidual code s p.residual
