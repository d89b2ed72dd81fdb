-- The sequence header, field after field: sequence header, Dirac specification, section 10.
use Rattle.std.specs.Prelude.{ℕ, ◌+◌, ◌-◌, ◌*◌, ◌%◌, ◌^◌, false, true, ◌==◌, nat_le, nat_lt, ◌&&◌, if◌then◌else◌, Bool}
use Rattle.std.specs.Prelude.{List, Result}
use Rattle.dirac_base_formats.specs.declared.base_formats.TheConstants.{LAST_BASE}
use Rattle.dirac_common.specs.declared.limits.TheConstants.{LARGEST_HEIGHT, LARGEST_WIDTH}
use Rattle.dirac_common.specs.declared.faults.Cause.TheVariants.{Version, Preset, Size, ChromaFormat, Sampling}
use Rattle.dirac_common.specs.declared.faults.Cause.TheVariants.{RateIndex, AspectIndex, SignalRange as SignalIndex}
use Rattle.dirac_common.specs.declared.faults.Cause.TheVariants.{Depth8, Fields}
use Rattle.dirac_common.specs.declared.faults.Refusal.{Refusal}
use Rattle.dirac_common.specs.declared.formats.Chroma.{Chroma}
use Rattle.dirac_common.specs.declared.formats.Chroma.TheVariants.{C444, C422, C420}
use Rattle.dirac_bits.specs.Cursor.{start}
use Rattle.dirac_bits.specs.Syntax.{Syntax, done, refuse, ◌>>=◌, uint, here, number_field, between, custom, read}
use Rattle.dirac_bits.specs.Answers.{value_of}
use Rattle.dirac_sequence_header.specs.declared.sequence.Sequence.{Sequence}
use Rattle.dirac_sequence_header.specs.declared.sequence.SignalRange.{SignalRange}
use Rattle.dirac_common.specs.Ratios.{ratio_across, ratio_down}
use Rattle.dirac_sequence_header.specs.Tables.{preset, rate_of, aspect_of, range_of}

-- versions, profile and level, and the base video format, with which the other values begin
unfoldable pub base_format_fields : Syntax Sequence
base_format_fields = do
  major ← number_field Version (between 0 2)
  minor ← uint
  profile ← uint
  level ← uint
  base ← number_field Preset (between 0 LAST_BASE)
  done (record (preset base) { major = major; minor = minor; profile = profile; level = level })

-- the frame size in luma samples
unfoldable pub size : ℕ × ℕ → Syntax (ℕ × ℕ)
size default = custom default (do
  width ← number_field Size (between 1 LARGEST_WIDTH)
  height ← number_field Size (between 1 LARGEST_HEIGHT)
  done (width, height))

-- a chroma format by its index
abbrev pub chroma_of : ℕ → Chroma
chroma_of index = if index == 0 then C444 else if index == 1 then C422 else C420

-- the chroma format, where the header has its own
unfoldable pub own_chroma : Chroma → Syntax Chroma
own_chroma default = custom default (do
  index ← number_field ChromaFormat (between 0 2)
  done (chroma_of index))

-- chroma has whole samples
abbrev pub is_whole : ℕ × ℕ → Chroma → Bool
is_whole size chroma = size.0 % ratio_across chroma == 0 && size.1 % ratio_down chroma == 0

-- the chroma format, refused at its flag where it doesn't divide the size
unfoldable pub chroma : ℕ × ℕ → Chroma → Syntax Chroma
chroma size default = do
  at ← here
  chroma ← own_chroma default
  if is_whole size chroma then done chroma else refuse at Size

-- the source sampling: whether it is interlaced
unfoldable pub sampling : Bool → Syntax Bool
sampling default = custom default (do
  index ← number_field Sampling (between 0 1)
  done (index == 1))

-- two numbers, as a fraction
unfoldable pub fraction : Syntax (ℕ × ℕ)
fraction = do
  numerator ← uint
  denominator ← uint
  done (numerator, denominator)

-- the frame rate
unfoldable pub rate : ℕ × ℕ → Syntax (ℕ × ℕ)
rate default = custom default (do
  index ← number_field RateIndex (between 0 10)
  if index == 0 then fraction else done (rate_of index))

-- size, chroma format, source sampling and frame rate
unfoldable pub frames : Sequence → Syntax Sequence
frames s = do
  size ← size (s.width, s.height)
  chroma ← chroma size s.chroma
  interlaced ← sampling s.interlaced
  rate ← rate s.rate
  done (record s { width = size.0; height = size.1; chroma = chroma; interlaced = interlaced; rate = rate })

-- the pixel aspect
unfoldable pub aspect : ℕ × ℕ → Syntax (ℕ × ℕ)
aspect default = custom default (do
  index ← number_field AspectIndex (between 0 6)
  if index == 0 then fraction else done (aspect_of index))

-- the clean area: width, height, left and top
unfoldable pub clean_area : ℕ × ℕ × ℕ × ℕ → Syntax (ℕ × ℕ × ℕ × ℕ)
clean_area default = custom default (do
  width ← uint
  height ← uint
  left ← uint
  top ← uint
  done (width, height, left, top))

-- offsets and excursions that stand in the header
unfoldable pub own_range : Syntax SignalRange
own_range = do
  luma ← fraction
  colour ← fraction
  done (record { luma = luma; colour = colour })

-- the signal range, where the header has its own: by its index, or in full
unfoldable pub signal_range : SignalRange → Syntax SignalRange
signal_range default = custom default (do
  index ← number_field SignalIndex (between 0 4)
  if index == 0 then own_range else done (range_of index))

-- the depth is the least number of bits whose values reach the excursion
abbrev pub is_depth : ℕ → ℕ → Bool
is_depth depth excursion = nat_le (excursion + 1) (2 ^ depth) && nat_lt (2 ^ (depth - 1)) (excursion + 1)

-- the signal range, refused at its flag where a depth isn't 8
unfoldable pub signal : SignalRange → Syntax SignalRange
signal default = do
  at ← here
  range ← signal_range default
  if is_depth 8 range.luma.1 && is_depth 8 range.colour.1 then done range else refuse at Depth8

-- pixel aspect, clean area and signal range
unfoldable pub samples : Sequence → Syntax Sequence
samples s = do
  aspect ← aspect s.aspect
  clean ← clean_area s.clean
  signal ← signal (record { luma = s.luma; colour = s.colour })
  done (record s { aspect = aspect; clean = clean; luma = signal.luma; colour = signal.colour })

-- one part of the colour specification
unfoldable pub colour_part : Syntax (Unit {0})
colour_part = custom tt (uint >>= λ index. done tt)

-- primaries, matrix and transfer function
unfoldable pub colour_parts : Syntax (Unit {0})
colour_parts = do
  primaries ← colour_part
  matrix ← colour_part
  colour_part

-- the colour specification, which changes no sample
unfoldable pub colours : Syntax (Unit {0})
colours = custom tt (do
  index ← uint
  if index == 0 then colour_parts else done tt)

-- all that makes a sequence, in groups
unfoldable pub values : Syntax Sequence
values = do
  s ← base_format_fields
  s ← frames s
  samples s

-- a frame has two fields with whole chroma samples
abbrev pub has_whole_fields : Sequence → Bool
has_whole_fields s = s.height % (2 * ratio_down s.chroma) == 0

-- the picture coding mode, 0 for frames and 1 for fields; fields of a height that doesn't allow them are refused at it
unfoldable pub coding_mode : Sequence → Syntax Sequence
coding_mode s = do
  at ← here
  mode ← number_field Fields (between 0 1)
  if mode == 0 then done (record s { fields = false }) else
      if has_whole_fields s then done (record s { fields = true }) else refuse at Size

-- the sequence header
unfoldable pub sequence : Syntax Sequence
sequence = do
  s ← values
  none ← colours
  coding_mode s

-- the sequence that a payload begins with, or the first field that breaks a rule
abbrev pub sequence_read : List ℕ → Result Sequence Refusal
sequence_read payload = value_of (read sequence (start payload))
