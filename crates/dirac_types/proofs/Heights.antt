-- Heights of frames and of pictures.
use Rattle.std.proofs.Common.{◌≡◌, ℕ, ◌*◌, ◌/◌, ◌%◌, ◌≤◌, ◌==◌, if◌then◌else◌, Bool, true, false, arith}
use Rattle.dirac_types.specs.declared.settings.Settings.{Settings}
use Rattle.dirac_types.specs.Settings.{IsAccepted, step_down, step_of_height}
use Rattle.dirac_types.specs.Sizes.{picture_height}
use Rattle.dirac_types.proofs.Accepted.{in_range}

-- a height with whole chroma samples in each field has whole ones in the frame
pub height_divides : (chroma fields height : ℕ) → height % step_of_height chroma fields ≡ 0 → height % step_down chroma ≡ 0
height_divides chroma fields height = by_tests (fields == 1) (chroma == 2) height
  where
    by_tests : (two half : Bool) (height : ℕ) → height % (if two then 2 * (if half then 2 else 1) else if half then 2 else 1) ≡ 0
        → height % (if half then 2 else 1) ≡ 0
    by_tests true true height e = omega arith
    by_tests true false height e = omega arith
    by_tests false half height e = e

-- the rows of a picture: some, no more than those of a frame, and with whole chroma samples
pub record IsPictureHeight (s : Settings) : Type 0 where
  pub some : 1 ≤ picture_height s
  pub most : picture_height s ≤ s.height
  pub whole : picture_height s % step_down s.chroma ≡ 0

pub picture_rows : (s : Settings) → IsAccepted s → IsPictureHeight s
picture_rows s is =
    let range = in_range s is in
    let found = by_tests (s.fields == 1) (s.chroma == 2) s.height range.height.0 range.whole_down in
    record { some = found.0; most = found.1; whole = found.2 }
  where
    by_tests : (two half : Bool) (height : ℕ) → 1 ≤ height → height % (if two then 2 * (if half then 2 else 1) else if half then 2 else 1) ≡ 0
        → (1 ≤ (if two then height / 2 else height)) × ((if two then height / 2 else height) ≤ height)
        × ((if two then height / 2 else height) % (if half then 2 else 1) ≡ 0)
    by_tests true true height some e = (omega arith, omega arith, omega arith)
    by_tests true false height some e = (omega arith, omega arith, omega arith)
    by_tests false half height some e = (some, omega arith, e)
