-- The tables of the sequence header: base video formats, frame rates, pixel aspects, signal ranges.
use Rattle.std.specs.Prelude.{ℕ, ◌-◌, false, nat_le, if◌then◌else◌, List, [], ◌∷◌, slice_index_or}
use Rattle.dirac_base_formats.specs.BaseFormats.{base_format}
use Rattle.dirac_base_formats.specs.declared.base_formats.TheConstants.{LAST_BASE}
use Rattle.dirac_base_formats.specs.declared.base_formats.BaseFormat.{BaseFormat}
use Rattle.dirac_sequence_header.specs.declared.sequence.Sequence.{Sequence}
use Rattle.dirac_sequence_header.specs.declared.sequence.SignalRange.{SignalRange}

-- numerator and denominator of frame rates 1 to 10
abbrev pub rates : List (ℕ × ℕ)
rates =
    (24000, 1001) ∷ (24, 1) ∷ (25, 1) ∷ (30000, 1001) ∷ (30, 1) ∷ (50, 1) ∷ (60000, 1001) ∷ (60, 1) ∷ (15000, 1001)
    ∷ (25, 2) ∷ []

-- the frame rate of an index
unfoldable pub rate_of : ℕ → ℕ × ℕ
rate_of index = slice_index_or rates (index - 1) (0, 1)

-- pixel aspects 1 to 6
abbrev pub aspects : List (ℕ × ℕ)
aspects = (1, 1) ∷ (10, 11) ∷ (12, 11) ∷ (40, 33) ∷ (16, 11) ∷ (4, 3) ∷ []

-- the pixel aspect of an index
unfoldable pub aspect_of : ℕ → ℕ × ℕ
aspect_of index = slice_index_or aspects (index - 1) (1, 1)

-- offset and excursion of luma and of chroma
abbrev pub range : ℕ → ℕ → ℕ → ℕ → SignalRange
range luma_offset luma_excursion chroma_offset chroma_excursion =
    record { luma = (luma_offset, luma_excursion); colour = (chroma_offset, chroma_excursion) }

-- signal ranges 1 to 4
abbrev pub ranges : List SignalRange
ranges = range 0 255 128 255 ∷ range 16 219 128 224 ∷ range 64 876 512 896 ∷ range 256 3504 2048 3584 ∷ []

-- the signal range of an index
unfoldable pub range_of : ℕ → SignalRange
range_of index = slice_index_or ranges (index - 1) (range 0 255 128 255)

-- the sequence of a row of the table of base video formats; the versions, the profile and the level are 0
abbrev pub preset_of : ℕ → BaseFormat → Sequence
preset_of base f = record {
  major = 0;
  minor = 0;
  profile = 0;
  level = 0;
  base = base;
  width = f.size.0;
  height = f.size.1;
  chroma = f.chroma;
  interlaced = f.interlaced;
  rate = rate_of f.rate;
  aspect = aspect_of f.aspect;
  clean = f.clean;
  luma = (range_of f.signal).luma;
  colour = (range_of f.signal).colour;
  fields = false;
}

-- the sequence of the base video format of this number; beyond the last stands that of number 0
unfoldable pub preset : ℕ → Sequence
preset base = preset_of (if nat_le base LAST_BASE then base else 0) (base_format base)
