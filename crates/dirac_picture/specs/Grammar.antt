-- The payload of a picture, field after field: picture parsing, Dirac specification.
use Rattle.std.specs.Prelude.{ℕ, zero, suc, ◌+◌, ◌-◌, ◌*◌, ◌/◌, nat_le, ◌&&◌, ◌||◌, if◌then◌else◌, Bool, false, List}
use Rattle.std.specs.Prelude.{[], ◌∷◌, ◌++◌, length, Option, None, Some, Result}
use Rattle.dirac_common.specs.declared.faults.Cause.TheVariants.{MissingReference}
use Rattle.dirac_common.specs.declared.faults.Refusal.{Refusal}
use Rattle.dirac_common.specs.declared.picture.Picture.{Picture}
use Rattle.dirac_bits.specs.Answers.{value_of}
use Rattle.dirac_bits.specs.Cursor.{start}
use Rattle.dirac_bits.specs.Syntax.{Syntax, done, refuse, ◌>>=◌, align, flag, read}
use Rattle.dirac_sequence_header.specs.declared.sequence.Sequence.{Sequence}
pub use Rattle.dirac_sequence_header.specs.Sizes.{chroma_height, chroma_width, picture_height}
use Rattle.dirac_header.specs.declared.header.PictureHeader.{PictureHeader}
use Rattle.dirac_parameters.specs.declared.transform.Transform.{Transform}
pub use Rattle.dirac_common.specs.Codes.{is_intra, references_of}
use Rattle.dirac_header.specs.Header.{header}
use Rattle.dirac_header.specs.Prediction.{prediction}
use Rattle.dirac_header.specs.Transform.{transform}
use Rattle.dirac_coeffs.specs.declared.layout.CodedBand.{CodedBand}
use Rattle.dirac_coeffs.specs.Grammar.{band}
use Rattle.dirac_blocks.specs.Grammar.{blocks}
pub use Rattle.dirac_refs.specs.References.{is_listed}
use Rattle.dirac_picture.specs.declared.coded.CodedMotion.{CodedMotion}
use Rattle.dirac_picture.specs.declared.coded.CodedPicture.{CodedPicture}
use Rattle.dirac_picture.specs.declared.coded.CodedResidual.{CodedResidual}
use Rattle.dirac_picture.specs.Bands.{band_count, layout_of, parent_values}

-- the bands of a plane of this size: those before, and that many more
unfoldable pub bands_behind : Transform → ℕ → ℕ → List CodedBand → ℕ → Syntax (List CodedBand)
bands_behind t width height before zero = done before
bands_behind t width height before (suc more) = do
  b ← band (layout_of t width height (length before)) (parent_values before)
  bands_behind t width height (before ++ b ∷ []) more

-- all bands of a plane of this size
abbrev pub subbands_of_plane : Transform → ℕ → ℕ → Syntax (List CodedBand)
subbands_of_plane t width height = bands_behind t width height [] (band_count t.depth)

-- the bands of Y, U and V, with these transform parameters
unfoldable pub planes : Sequence → Transform → Syntax CodedResidual
planes s t = do
  y ← subbands_of_plane t s.width (picture_height s)
  u ← subbands_of_plane t (chroma_width s) (chroma_height s)
  v ← subbands_of_plane t (chroma_width s) (chroma_height s)
  done (record { transform = t; y = y; u = u; v = v })

-- the transform parameters and the bands
unfoldable pub residual_fields : Sequence → Syntax CodedResidual
residual_fields s = do
  t ← transform s.width (picture_height s)
  planes s t

-- the parse codes of pictures, told by what their fields depend on: inter pictures have references (the units of these
-- codes are those that dirac_units counts as pictures)
abbrev pub is_picture : ℕ → Bool
is_picture code = is_intra code || nat_le 1 (references_of code)

-- how many superblocks cover that many samples; each is four blocks long
abbrev pub superblocks_over : ℕ → ℕ → ℕ
superblocks_over size separation = (size + 4 * separation - 1) / (4 * separation)

-- the prediction parameters and the block table
unfoldable pub prediction_fields : ℕ → Sequence → Syntax CodedMotion
prediction_fields code s = do
  p ← prediction code s.chroma
  t ← blocks (superblocks_over s.width p.grid.xbsep) (superblocks_over (picture_height s) p.grid.ybsep)
      (references_of code)
  done (record { prediction = p; blocks = t })

-- what an inter picture is predicted from
unfoldable pub motion : ℕ → Sequence → Syntax (Option CodedMotion)
motion code s = if is_intra code then done None else (prediction_fields code s >>= λ m. done (Some m))

-- whether the residual is 0, which an inter picture says
unfoldable pub zero_residual : ℕ → Syntax Bool
zero_residual code = if is_intra code then done false else flag

-- the residual, where it isn't 0
unfoldable pub residual_unless : Bool → Sequence → Syntax (Option CodedResidual)
residual_unless none s = if none then done None else (residual_fields s >>= λ r. done (Some r))

-- the fields behind the header
unfoldable pub body : ℕ → Sequence → PictureHeader → Syntax CodedPicture
body code s head = do
  motion ← motion code s
  gap ← align
  none ← zero_residual code
  coded ← residual_unless none s
  done (record { code = code; header = head; motion = motion; residual = coded })

-- each reference that a header names is listed
abbrev pub are_listed : List Picture → PictureHeader → Bool
are_listed refs head = is_listed refs head.ref1 && is_listed refs head.ref2

-- the fields of a picture with this parse code; its references are looked up once its header is read
unfoldable pub picture : ℕ → Sequence → List Picture → Syntax CodedPicture
picture code s refs = do
  head ← header code
  if are_listed refs head then body code s head else refuse 0 MissingReference

-- what a picture's payload reads to; bytes behind its last field are free
abbrev pub picture_read : ℕ → Sequence → List Picture → List ℕ → Result CodedPicture Refusal
picture_read code s refs payload = value_of (read (picture code s refs) (start payload))
