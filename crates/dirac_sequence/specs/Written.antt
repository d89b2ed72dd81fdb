-- The sequence header that the encoder writes for its settings.
use Rattle.std.specs.Prelude.{◌≡◌, ℕ, ◌≤◌, ◌*◌, ◌%◌, ◌==◌, ◌&&◌, not, if◌then◌else◌, Bool, true, false, List, [], ◌∷◌}
use Rattle.std.specs.Prelude.{◌++◌}
use Rattle.dirac_base_formats.specs.declared.base_formats.TheConstants.{LAST_BASE}
use Rattle.dirac_common.specs.declared.formats.Chroma.{Chroma}
use Rattle.dirac_common.specs.declared.formats.Chroma.TheVariants.{C444, C422, C420}
use Rattle.dirac_types.specs.declared.settings.Settings.{Settings}
use Rattle.dirac_common.specs.Bytes.{bytes_of}
use Rattle.dirac_common.specs.Numbers as numbers
pub use Rattle.dirac_bits.specs.Writing.{up_to_byte}
use Rattle.dirac_sequence_header.specs.declared.sequence.Sequence.{Sequence}
use Rattle.dirac_sequence_header.specs.Grammar.{chroma_of}
use Rattle.dirac_sequence_header.specs.Lawful.{IsSize}
use Rattle.dirac_common.specs.Ratios.{ratio_across, ratio_down}
use Rattle.dirac_sequence_header.specs.Tables.{preset, rate_of, range_of}

-- settings that a header can have
pub record IsWritable (t : Settings) : Type 0 where
  pub base : t.base ≤ LAST_BASE
  pub chroma : t.chroma ≤ 2
  pub size : IsSize t.width t.height
  pub whole_across : t.width % ratio_across (chroma_of t.chroma) ≡ 0
  pub whole_down : t.height % ratio_down (chroma_of t.chroma) ≡ 0
  pub rate : (1 ≤ t.rate) × (t.rate ≤ 10)
  pub signal : (1 ≤ t.signal) × (t.signal ≤ 2)
  pub profile : t.profile ≤ 255
  pub level : t.level ≤ 255
  pub mode : t.fields ≤ 1
  pub whole_fields : t.fields ≡ 1 → t.height % (2 * ratio_down (chroma_of t.chroma)) ≡ 0

-- both numbers are the same
abbrev pub is_same_pair : ℕ × ℕ → ℕ × ℕ → Bool
is_same_pair a b = a.0 == b.0 && a.1 == b.1

-- the index of a chroma format
abbrev pub index_of : Chroma → ℕ
index_of C444 = 0
index_of C422 = 1
index_of C420 = 2

-- whether the base's size is replaced
abbrev pub is_own_size : Settings → Bool
is_own_size t = not (is_same_pair (t.width, t.height) ((preset t.base).width, (preset t.base).height))

-- whether its chroma format is
abbrev pub is_own_chroma : Settings → Bool
is_own_chroma t = not (t.chroma == index_of (preset t.base).chroma)

-- whether its frame rate is
abbrev pub is_own_rate : Settings → Bool
is_own_rate t = not (is_same_pair (rate_of t.rate) (preset t.base).rate)

-- whether its signal range is
abbrev pub is_own_signal : Settings → Bool
is_own_signal t =
    not (is_same_pair (range_of t.signal).luma (preset t.base).luma
    && is_same_pair (range_of t.signal).colour (preset t.base).colour)

-- the sequence of these settings: version 2.2, and what they don't say as the base has it; with a size of its own all
-- of a picture is shown
unfoldable pub sequence_of : Settings → Sequence
sequence_of t = record (preset t.base) {
  major = 2;
  minor = 2;
  profile = t.profile;
  level = t.level;
  width = t.width;
  height = t.height;
  chroma = chroma_of t.chroma;
  rate = rate_of t.rate;
  clean = if is_own_size t then (t.width, t.height, 0, 0) else (preset t.base).clean;
  luma = (range_of t.signal).luma;
  colour = (range_of t.signal).colour;
  fields = t.fields == 1;
}

-- a custom flag, and behind it where it is set what it announces
abbrev pub custom_bits : Bool → List Bool → List Bool
custom_bits own bits = if own then true ∷ bits else false ∷ []

-- version, profile, level and base
abbrev pub base_bits : Settings → List Bool
base_bits t = numbers.uint 2 ++ numbers.uint 2 ++ numbers.uint t.profile ++ numbers.uint t.level ++ numbers.uint t.base

-- size, chroma format, no sampling of its own, frame rate
abbrev pub frames_bits : Settings → List Bool
frames_bits t =
    custom_bits (is_own_size t) (numbers.uint t.width ++ numbers.uint t.height)
    ++ custom_bits (is_own_chroma t) (numbers.uint t.chroma)
    ++ (false ∷ [])
    ++ custom_bits (is_own_rate t) (numbers.uint t.rate)

-- a clean area that is the whole picture: its size, left 0 and top 0
abbrev pub whole_area_bits : Settings → List Bool
whole_area_bits t = numbers.uint t.width ++ numbers.uint t.height ++ numbers.uint 0 ++ numbers.uint 0

-- no aspect of its own, the clean area where the size is its own, the signal range
abbrev pub samples_bits : Settings → List Bool
samples_bits t =
    (false ∷ [])
    ++ custom_bits (is_own_size t) (whole_area_bits t)
    ++ custom_bits (is_own_signal t) (numbers.uint t.signal)

-- the header: behind its values no colours of its own, and the picture coding mode, 1 for fields
abbrev pub sequence_bits : Settings → List Bool
sequence_bits t = base_bits t ++ frames_bits t ++ samples_bits t ++ (false ∷ []) ++ numbers.uint t.fields

-- the header's bytes, its last byte filled up with bits 0
unfoldable pub sequence_payload : Settings → List ℕ
sequence_payload t = bytes_of (up_to_byte (sequence_bits t))
