-- The settings of the encoder: their ranges and defaults, and which of them is out of its range.
use Rattle.std.specs.Prelude.{◌≡◌, ℕ, ◌≤◌, ◌*◌, ◌%◌, ◌==◌, nat_le, ◌&&◌, if◌then◌else◌, Bool, List, [], ◌∷◌, map}
use Rattle.std.specs.Prelude.{slice_index_or, Option, Some, None, Result, Ok, Err}
use Rattle.std.specs.List.{AllByRecursion}
use Rattle.dirac_common.specs.declared.limits.TheConstants.{LARGEST_ENCODED_DEPTH, LARGEST_HEIGHT, LARGEST_INDEX}
use Rattle.dirac_common.specs.declared.limits.TheConstants.{LARGEST_WAVELET, LARGEST_WIDTH}
use Rattle.dirac_base_formats.specs.BaseFormats.{base_formats}
use Rattle.dirac_base_formats.specs.declared.base_formats.TheConstants.{LAST_BASE}
use Rattle.dirac_base_formats.specs.declared.base_formats.BaseFormat.{BaseFormat}
use Rattle.dirac_common.specs.declared.formats.Chroma.{Chroma}
use Rattle.dirac_common.specs.declared.formats.Chroma.TheVariants.{C444, C422, C420}
use Rattle.dirac_types.specs.declared.settings.BadSetting.{BadSetting}
use Rattle.dirac_types.specs.declared.settings.Name.{Name}
use Rattle.dirac_types.specs.declared.settings.Name.TheVariants as name
use Rattle.dirac_types.specs.declared.settings.Settings.{Settings}
use Rattle.dirac_types.specs.declared.ranges.Format.{Format}
use Rattle.dirac_types.specs.declared.ranges.Ranged.{Ranged}

-- a setting with its value: it may be from the least to the most, and is a multiple of the step
abbrev pub setting : Name → ℕ → ℕ → ℕ → ℕ → Ranged
setting name value least most step = record { name = name; value = value; least = least; most = most; step = step }

-- luma samples beside each other for one chroma sample, by the number of the chroma format
abbrev pub step_across : ℕ → ℕ
step_across chroma = if chroma == 0 then 1 else 2

-- luma samples below each other for one chroma sample
abbrev pub step_down : ℕ → ℕ
step_down chroma = if chroma == 2 then 2 else 1

-- the number of rows that divides the height of a frame: with fields each of its two fields has whole chroma samples
abbrev pub step_of_height : ℕ → ℕ → ℕ
step_of_height chroma fields = if fields == 1 then 2 * step_down chroma else step_down chroma

-- the settings with their ranges, in the order in which they are checked
unfoldable pub table : Settings → List Ranged
table s =
    setting name.Base s.base 0 LAST_BASE 1
    ∷ setting name.Chroma s.chroma 0 2 1
    ∷ setting name.Width s.width 1 LARGEST_WIDTH (step_across s.chroma)
    ∷ setting name.Height s.height 1 LARGEST_HEIGHT (step_of_height s.chroma s.fields)
    ∷ setting name.Rate s.rate 1 10 1
    ∷ setting name.Signal s.signal 1 2 1
    ∷ setting name.Fields s.fields 0 1 1
    ∷ setting name.Profile s.profile 0 255 1
    ∷ setting name.Level s.level 0 255 1
    ∷ setting name.Wavelet s.wavelet 0 LARGEST_WAVELET 1
    ∷ setting name.Depth s.depth 1 LARGEST_ENCODED_DEPTH 1
    ∷ setting name.Index s.index 0 LARGEST_INDEX 1
    ∷ setting name.Codeblocks s.codeblocks 1 8 1
    ∷ setting name.Finer s.finer 0 LARGEST_INDEX 1
    ∷ setting name.Blocks s.blocks 2 4 1
    ∷ setting name.Precision s.precision 0 3 1
    ∷ setting name.References s.references 1 2 1
    ∷ setting name.Gop s.gop 1 65535 1
    ∷ setting name.Between s.between 0 3 1
    ∷ setting name.Range s.range 0 16 1
    ∷ setting name.Pyramid s.pyramid 0 4 1
    ∷ setting name.Bias s.bias 0 255 1
    ∷ setting name.Workers s.workers 1 64 1
    ∷ setting name.Pictures s.pictures 1 2147483647 1
    ∷ setting name.UnitBytes s.unit_bytes 14 4294967295 1
    ∷ setting name.Alike s.alike 0 1 1
    ∷ []

-- the value is in its range
abbrev pub is_in_range : Ranged → Bool
is_in_range r = (nat_le r.least r.value && nat_le r.value r.most) && r.value % r.step == 0

-- the first that is out of its range
abbrev pub first_bad : List Ranged → Option BadSetting
first_bad [] = None
first_bad (r ∷ rows) = if is_in_range r then first_bad rows else Some (record { name = r.name; value = r.value })

-- the answer of a check that found this
abbrev pub verdict : Option BadSetting → Result (Unit {0}) BadSetting
verdict None = Ok tt
verdict (Some bad) = Err bad

-- a value that its row of the table allows
abbrev pub IsInRange : Ranged → Type 0
IsInRange r = (r.least ≤ r.value) × (r.value ≤ r.most) × (r.value % r.step ≡ 0)

-- each setting is in its range
abbrev pub IsAccepted : Settings → Type 0
IsAccepted s = AllByRecursion IsInRange (table s)

-- what a base video format gives to five settings
abbrev pub defaults : ℕ → ℕ → ℕ → ℕ → ℕ → Format
defaults chroma width height rate signal =
    record { chroma = chroma; width = width; height = height; rate = rate; signal = signal }

-- the number of a chroma format
abbrev pub chroma_number : Chroma → ℕ
chroma_number C444 = 0
chroma_number C422 = 1
chroma_number C420 = 2

-- what a row of their table gives: of the signal ranges the settings have those of 8 bits, 1 and 2
abbrev pub defaults_of : BaseFormat → Format
defaults_of f = defaults (chroma_number f.chroma) f.size.0 f.size.1 f.rate (if f.signal == 1 then 1 else 2)

-- chroma format, size, frame rate and signal range of the base video formats, by their numbers
abbrev pub formats : List Format
formats = map defaults_of base_formats

-- those of this base; beyond the last they are those of base 0
unfoldable pub format_of : ℕ → Format
format_of base = slice_index_or formats base (defaults 2 640 480 1 1)

-- the defaults with this base video format
abbrev pub of_base : ℕ → Settings
of_base base = let format = format_of base in record {
  base = base;
  chroma = format.chroma;
  width = format.width;
  height = format.height;
  rate = format.rate;
  signal = format.signal;
  fields = 0;
  profile = 0;
  level = 0;
  wavelet = 0;
  depth = 4;
  index = 12;
  codeblocks = 1;
  finer = 0;
  blocks = 2;
  precision = 2;
  references = 2;
  gop = 12;
  between = 2;
  range = 4;
  pyramid = 3;
  bias = 4;
  workers = 1;
  pictures = 2147483647;
  unit_bytes = 4294967295;
  alike = 0;
}
