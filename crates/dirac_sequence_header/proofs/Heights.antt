-- The size of a picture: that of a frame, or of a field.
use Rattle.std.proofs.Common.{◌≡◌, ℕ, ◌*◌, ◌/◌, ◌%◌, ◌≤◌, if◌then◌else◌, Bool, true, false, refl, arith}
use Rattle.dirac_common.specs.declared.formats.Chroma.{Chroma}
use Rattle.dirac_common.specs.declared.formats.Chroma.TheVariants.{C444, C422, C420}
use Rattle.dirac_sequence_header.specs.declared.sequence.Sequence.{Sequence}
use Rattle.dirac_sequence_header.specs.Lawful.{IsSequence, IsSize}
use Rattle.dirac_common.specs.Ratios.{ratio_down}
use Rattle.dirac_sequence_header.specs.Sizes.{picture_height}

-- a field of whole chroma samples has a row
half_some : (c : Chroma) (h : ℕ) → 1 ≤ h → h % (2 * ratio_down c) ≡ 0 → 1 ≤ h / 2
half_some C444 h some whole = omega arith
half_some C422 h some whole = omega arith
half_some C420 h some whole = omega arith

-- and its chroma samples are whole
half_whole : (c : Chroma) (h : ℕ) → h % (2 * ratio_down c) ≡ 0 → (h / 2) % ratio_down c ≡ 0
half_whole C444 h whole = omega arith
half_whole C422 h whole = omega arith
half_whole C420 h whole = omega arith

size_by : (fields : Bool) (c : Chroma) (w h : ℕ) → IsSize w h → (fields ≡ true → h % (2 * ratio_down c) ≡ 0) → IsSize w (if fields then h / 2 else h)
size_by true c w h size whole = (size.0, size.1, half_some c h size.2 (whole refl), omega (arith, size.3))
size_by false c w h size whole = size

whole_by : (fields : Bool) (c : Chroma) (h : ℕ) → h % ratio_down c ≡ 0 → (fields ≡ true → h % (2 * ratio_down c) ≡ 0) → (if fields then h / 2 else h) % ratio_down c ≡ 0
whole_by true c h frame whole = half_whole c h (whole refl)
whole_by false c h frame whole = frame

-- a picture has a size within the limits
pub picture_size : (s : Sequence) → IsSequence s → IsSize s.width (picture_height s)
picture_size s is = size_by s.fields s.chroma s.width s.height is.frames.size is.whole_fields

-- and whole chroma samples down
pub picture_whole : (s : Sequence) → IsSequence s → picture_height s % ratio_down s.chroma ≡ 0
picture_whole s is = whole_by s.fields s.chroma s.height is.frames.whole_down is.whole_fields
