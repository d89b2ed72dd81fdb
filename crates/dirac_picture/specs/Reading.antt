-- A way to read the subbands of a picture's planes, as a reader of pictures is handed one.
use Rattle.std.specs.Prelude.{◌≡◌, ℕ, length, Result, IfErr, IfOk, IsTrue}
use Rattle.std.specs.Borrow.{Bor, MutBor}
use Rattle.dirac_common.specs.declared.faults.Stop.{Stop}
use Rattle.dirac_bits.specs.Answers.{ReadsOrStops, IsEarly}
use Rattle.dirac_bits.specs.Cursor.{Cursor}
use Rattle.dirac_bits.specs.Syntax.{read}
use Rattle.dirac_sequence_header.specs.declared.sequence.Sequence.{Sequence}
use Rattle.dirac_sequence_header.specs.Lawful.{IsSequence}
use Rattle.dirac_sequence_header.specs.Sizes.{chroma_height, chroma_width, picture_height}
use Rattle.dirac_parameters.specs.declared.transform.Transform.{Transform}
use Rattle.dirac_picture.specs.declared.coded.CodedResidual.{CodedResidual}
use Rattle.dirac_picture.specs.Fits.{IsLayout, IsPlaneSize, IsResidual, IsTransform}
use Rattle.dirac_picture.specs.Grammar.{is_picture, planes}

-- transform parameters of a picture of this sequence, and its planes have sizes within the limits
pub record CanBeRead (s : Sequence) (t : Transform) : Type 0 where
  pub transform : IsTransform s.width (picture_height s) t
  pub layout : IsLayout t
  pub luma : IsPlaneSize s.width (picture_height s)
  pub chroma : IsPlaneSize (chroma_width s) (chroma_height s)

-- what an answer says of the planes that begin at the first place, the reader standing at the second behind it
pub record ReadsThem (s : Sequence) (t : Transform) (c : Cursor) (result : Result CodedResidual Stop) (d : Cursor)
    : Type 0 where
  pub value : ReadsOrStops result d (read (planes s t) c)
  pub place_inside : IfErr result (IsEarly (length c.bytes))
  pub kept : d.bytes ≡ c.bytes
  pub fits : IfOk result (IsResidual s)

-- a call that may be made where planes can be read, and reads them
abbrev pub ReadsPlanes : {A : Type 0} → (A → MutBor Cursor → Transform → Bor Sequence → Type 0)
    → (A → MutBor Cursor → Transform → Bor Sequence → Result CodedResidual Stop → MutBor Cursor → Type 0) → Type 0
ReadsPlanes {A} pre post =
    ((alloc : A) (r : MutBor Cursor) (t : Transform) (s : Bor Sequence) → CanBeRead s.now t → pre alloc r t s)
    × ((alloc : A) (r : MutBor Cursor) (t : Transform) (s : Bor Sequence) (result : Result CodedResidual Stop)
    (behind : MutBor Cursor)
    → CanBeRead s.now t → post alloc r t s result behind → ReadsThem s.now t r.now result behind.now)

-- a picture with this parse code, of a lawful sequence, whose planes are read by such a call
abbrev pub CanRead : {A : Type 0} → ℕ → Sequence → (A → MutBor Cursor → Transform → Bor Sequence → Type 0)
    → (A → MutBor Cursor → Transform → Bor Sequence → Result CodedResidual Stop → MutBor Cursor → Type 0) → Type 0
CanRead {A} code s pre post = IsTrue (is_picture code) × IsSequence s × ReadsPlanes pre post
