-- How headers and parameters are written.
use Rattle.std.specs.Prelude.{◌≡◌, ℕ, ℤ, pos, ◌+◌, ◌-◌, ◌-ℤ◌, ◌%◌, ◌^◌, nat_lt, nat_le, if◌then◌else◌, Bool, List, []}
use Rattle.std.specs.Prelude.{◌∷◌, ◌++◌, length, Option, Some, None, is_some, IsTrue, ◌≢◌, ⊤, IfSome, ◌<◌, ◌≤◌, ◌||◌}
use Rattle.std.specs.Prelude.{false}
use Rattle.std.specs.List.{AllByRecursion}
use Rattle.dirac_common.specs.Limits.{IsWavelet}
use Rattle.dirac_common.specs.declared.formats.Chroma.{Chroma}
use Rattle.dirac_common.specs.Numbers as numbers
use Rattle.dirac_bits.specs.Writing.{gap}
use Rattle.dirac_bands.specs.Geometry.{band_length}
pub use Rattle.dirac_bits.specs.Spelling.{SpelledBehind}
use Rattle.dirac_header.specs.declared.header.PictureHeader.{PictureHeader}
use Rattle.dirac_parameters.specs.declared.prediction.Prediction.{Prediction}
use Rattle.dirac_header.specs.declared.prediction.Weights.{Weights}
use Rattle.dirac_parameters.specs.declared.transform.Transform.{Transform}
use Rattle.dirac_header.specs.Codes.{is_reference, references_of}
use Rattle.dirac_header.specs.Prediction.{grid_of, prediction_with, prediction}
use Rattle.dirac_header.specs.Transform.{transform}

-- a number modulo 2 ^ 32, as one from - 2 ^ 31 to 2 ^ 31 - 1
abbrev pub centred : ℕ → ℤ
centred n = if nat_lt n (2 ^ 31) then pos n else pos n -ℤ pos (2 ^ 32)

-- the offset by which the second picture number lies from the first
abbrev pub offset_to : ℕ → ℕ → ℤ
offset_to from to = centred ((to + (2 ^ 32 - from)) % 2 ^ 32)

-- a reference, by its offset from the picture
abbrev pub reference_bits : ℕ → Option ℕ → List Bool
reference_bits number None = []
reference_bits number (Some reference) = numbers.sint (offset_to number reference)

-- the offset of the picture that is retired, 0 where none is
abbrev pub retired_offset : ℕ → Option ℕ → ℤ
retired_offset number None = pos 0
retired_offset number (Some retired) = offset_to number retired

-- the retired picture, which reference pictures name
abbrev pub retirement_bits : Bool → ℕ → Option ℕ → List Bool
retirement_bits there number retire = if there then numbers.sint (retired_offset number retire) else []

-- a picture header behind these bits, the gap up to the next byte of bits 0
abbrev pub header_bits : List Bool → ℕ → PictureHeader → List Bool
header_bits before code h =
    gap before ++ numbers.literal h.number ++ reference_bits h.number h.ref1 ++ reference_bits h.number h.ref2
    ++ retirement_bits (is_reference code) h.number h.retire

-- the numbers of pictures are below 2 ^ 32
pub record NumbersHave32Bits (h : PictureHeader) : Type 0 where
  pub number : h.number < 2 ^ 32
  pub first : IfSome h.ref1 (λ n. n < 2 ^ 32)
  pub second : IfSome h.ref2 (λ n. n < 2 ^ 32)
  pub retired : IfSome h.retire (λ n. n < 2 ^ 32)

-- the header has just the references that the code has
pub record HasReferences (code : ℕ) (h : PictureHeader) : Type 0 where
  pub first : is_some h.ref1 ≡ nat_le 1 (references_of code)
  pub second : is_some h.ref2 ≡ nat_le 2 (references_of code)

-- a reference picture may retire another one; no other picture retires any
abbrev pub MayRetire : Bool → ℕ → Option ℕ → Type 0
MayRetire reference number None = ⊤
MayRetire reference number (Some retired) = IsTrue reference × (retired ≢ number)

-- the counts of codeblocks, level by level
abbrev pub counts_bits : List (ℕ × ℕ) → List Bool
counts_bits [] = []
counts_bits (c ∷ counts) = (numbers.uint c.0 ++ numbers.uint c.1) ++ counts_bits counts

-- a level has more than one codeblock
abbrev pub is_above_one : ℕ → ℕ → Bool
is_above_one across down = nat_lt 1 across || nat_lt 1 down

-- some level has
abbrev pub is_divided : List (ℕ × ℕ) → Bool
is_divided [] = false
is_divided (c ∷ counts) = is_above_one c.0 c.1 || is_divided counts

-- the partition flag: some level has more than one codeblock, or the codeblock mode isn't 0
abbrev pub partition_flag : List (ℕ × ℕ) → ℕ → Bool
partition_flag counts mode = is_divided counts || nat_lt 0 mode

-- where the partition flag is set, the counts and the codeblock mode
abbrev pub partition_bits : Bool → List (ℕ × ℕ) → ℕ → List Bool
partition_bits parted counts mode = if parted then counts_bits counts ++ numbers.uint mode else []

-- the partition flag and what stands behind it
abbrev pub codeblock_bits : List (ℕ × ℕ) → ℕ → List Bool
codeblock_bits counts mode =
    (partition_flag counts mode ∷ []) ++ partition_bits (partition_flag counts mode) counts mode

-- transform parameters
abbrev pub transform_bits : Transform → List Bool
transform_bits t = numbers.uint t.wavelet ++ numbers.uint t.depth ++ codeblock_bits t.counts t.mode

-- transform parameters that can be written
pub record IsWritableTransform (t : Transform) : Type 0 where
  pub wavelet : IsWavelet t.wavelet
  pub at_least_1 : 1 ≤ t.depth
  pub at_most_5 : t.depth ≤ 5
  pub levels : length t.counts ≡ t.depth + 1
  pub counts : AllByRecursion (λ c. (1 ≤ c.0) × (1 ≤ c.1)) t.counts
  pub mode : t.mode ≤ 1

-- the luma bands, from this level on, have as many columns and rows as there are codeblocks, or more
abbrev pub FitFrom : ℕ → ℕ → ℕ → ℕ → List (ℕ × ℕ) → Type 0
FitFrom width height depth level [] = ⊤
FitFrom width height depth level (c ∷ counts) =
    (c.0 ≤ band_length width depth level) × (c.1 ≤ band_length height depth level)
    × FitFrom width height depth (level + 1) counts

-- the bits written spell these parameters for each picture size whose luma bands the counts fit
abbrev pub TransformBehind : Transform → List Bool → List Bool → Type 0
TransformBehind t old new =
    (width height : ℕ) → width < 2 ^ 32 → height < 2 ^ 32 → FitFrom width height t.depth 0 t.counts
    → SpelledBehind (transform width height) t old new

-- the default weights
abbrev pub default_weights : Weights
default_weights = record { bits = 1; first = pos 1; second = pos 1 }

-- the prediction parameters of the encoder
abbrev pub prediction_of : ℕ → ℕ → Prediction
prediction_of blocks precision = prediction_with (grid_of blocks) precision default_weights

-- these parameters behind the bits `before`: the block index, the precision, no global motion, mode 0, no custom
-- weights
abbrev pub prediction_bits : List Bool → ℕ → ℕ → List Bool
prediction_bits before blocks precision =
    gap before ++ numbers.uint blocks ++ numbers.uint precision ++ (false ∷ []) ++ numbers.uint 0 ++ (false ∷ [])

-- the bits written spell them for each parse code and chroma format
abbrev pub PredictionBehind : ℕ → ℕ → List Bool → List Bool → Type 0
PredictionBehind blocks precision old new =
    (code : ℕ) (chroma : Chroma) → SpelledBehind (prediction code chroma) (prediction_of blocks precision) old new
