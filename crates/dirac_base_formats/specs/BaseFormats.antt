-- The base video formats, as the standard has them: size, chroma format, whether interlaced, the indices of frame rate
-- and pixel aspect, clean area, the index of the signal range.
use Rattle.std.specs.Prelude.{ℕ, Bool, true, false, List, [], ◌∷◌, slice_index_or}
use Rattle.dirac_base_formats.specs.declared.base_formats.BaseFormat.{BaseFormat}
use Rattle.dirac_common.specs.declared.formats.Chroma.{Chroma}
use Rattle.dirac_common.specs.declared.formats.Chroma.TheVariants.{C444, C422, C420}

-- a row of their table
abbrev pub row : ℕ × ℕ → Chroma → Bool → ℕ → ℕ → ℕ × ℕ × ℕ × ℕ → ℕ → BaseFormat
row size chroma interlaced rate aspect clean signal = record {
  size = size;
  chroma = chroma;
  interlaced = interlaced;
  rate = rate;
  aspect = aspect;
  clean = clean;
  signal = signal;
}

-- the table, by their numbers from 0 on
abbrev pub base_formats : List BaseFormat
base_formats =
    row (640, 480) C420 false 1 1 (640, 480, 0, 0) 1
    ∷ row (176, 120) C420 false 9 2 (176, 120, 0, 0) 1
    ∷ row (176, 144) C420 false 10 3 (176, 144, 0, 0) 1
    ∷ row (352, 240) C420 false 9 2 (352, 240, 0, 0) 1
    ∷ row (352, 288) C420 false 10 3 (352, 288, 0, 0) 1
    ∷ row (704, 480) C420 false 9 2 (704, 480, 0, 0) 1
    ∷ row (704, 576) C420 false 10 3 (704, 576, 0, 0) 1
    ∷ row (720, 480) C422 true 4 2 (704, 480, 8, 0) 3
    ∷ row (720, 576) C422 true 3 3 (704, 576, 8, 0) 3
    ∷ row (1280, 720) C422 false 7 1 (1280, 720, 0, 0) 3
    ∷ row (1280, 720) C422 false 6 1 (1280, 720, 0, 0) 3
    ∷ row (1920, 1080) C422 true 4 1 (1920, 1080, 0, 0) 3
    ∷ row (1920, 1080) C422 true 3 1 (1920, 1080, 0, 0) 3
    ∷ row (1920, 1080) C422 false 7 1 (1920, 1080, 0, 0) 3
    ∷ row (1920, 1080) C422 false 6 1 (1920, 1080, 0, 0) 3
    ∷ row (2048, 1080) C444 false 2 1 (2048, 1080, 0, 0) 4
    ∷ row (4096, 2160) C444 false 2 1 (4096, 2160, 0, 0) 4
    ∷ []

-- that of this number; beyond the last stands that of number 0
unfoldable pub base_format : ℕ → BaseFormat
base_format number = slice_index_or base_formats number (row (640, 480) C420 false 1 1 (640, 480, 0, 0) 1)
