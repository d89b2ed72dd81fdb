-- What every sequence that can be read has.
use Rattle.std.specs.Prelude.{◌≡◌, ℕ, ◌*◌, ◌%◌, ◌≤◌, true}
use Rattle.dirac_common.specs.declared.limits.TheConstants.{LARGEST_HEIGHT, LARGEST_WIDTH}
use Rattle.dirac_sequence_header.specs.declared.sequence.Sequence.{Sequence}
use Rattle.dirac_common.specs.Ratios.{ratio_across, ratio_down}

-- a size within the limits
abbrev pub IsSize : ℕ → ℕ → Type 0
IsSize width height = (1 ≤ width) × (width ≤ LARGEST_WIDTH) × (1 ≤ height) × (height ≤ LARGEST_HEIGHT)

-- frames of a size within the limits, with whole chroma samples
pub record HasFrames (s : Sequence) : Type 0 where
  pub size : IsSize s.width s.height
  pub whole_across : s.width % ratio_across s.chroma ≡ 0
  pub whole_down : s.height % ratio_down s.chroma ≡ 0

-- a sequence that a header can have: such frames, and where each picture is a field, two fields in each with whole
-- chroma samples
pub record IsSequence (s : Sequence) : Type 0 where
  pub frames : HasFrames s
  pub whole_fields : s.fields ≡ true → s.height % (2 * ratio_down s.chroma) ≡ 0
