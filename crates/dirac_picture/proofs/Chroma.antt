-- The sizes of planes.
use Rattle.std.proofs.Common.{◌≡◌, ℕ, ◌/◌, ◌%◌, ◌≤◌, arith}
use Rattle.dirac_common.specs.declared.formats.Chroma.{Chroma}
use Rattle.dirac_common.specs.declared.formats.Chroma.TheVariants.{C444, C422, C420}
use Rattle.dirac_common.specs.declared.formats.Component.{Component}
use Rattle.dirac_common.specs.declared.formats.Component.TheVariants as component
use Rattle.dirac_sequence_header.specs.declared.sequence.Sequence.{Sequence}
use Rattle.dirac_sequence_header.specs.Lawful.{IsSequence}
use Rattle.dirac_common.specs.Ratios.{ratio_across, ratio_down}
use Rattle.dirac_picture.specs.Fits.{IsPlaneSize}
use Rattle.dirac_sequence_header.specs.Sizes.{chroma_height, chroma_width, picture_height, plane_height, plane_width}
use Rattle.dirac_sequence_header.proofs.Heights.{picture_size, picture_whole}

across_some : (width : ℕ) (chroma : Chroma) → 1 ≤ width → width ≤ 4096 → width % ratio_across chroma ≡ 0 → (1 ≤ width / ratio_across chroma) × (width / ratio_across chroma ≤ 4096)
across_some width C444 some few whole = (omega arith, omega arith)
across_some width C422 some few whole = (omega arith, omega arith)
across_some width C420 some few whole = (omega arith, omega arith)

down_some : (height : ℕ) (chroma : Chroma) → 1 ≤ height → height ≤ 4096 → height % ratio_down chroma ≡ 0 → (1 ≤ height / ratio_down chroma) × (height / ratio_down chroma ≤ 4096)
down_some height C444 some few whole = (omega arith, omega arith)
down_some height C422 some few whole = (omega arith, omega arith)
down_some height C420 some few whole = (omega arith, omega arith)

-- the luma plane of a sequence
pub luma_size : (s : Sequence) → IsSequence s → IsPlaneSize s.width (picture_height s)
luma_size s lawful = let size = picture_size s lawful in record { across = (size.0, size.1); down = (size.2, omega arith) }

-- and its chroma planes
pub chroma_size : (s : Sequence) → IsSequence s → IsPlaneSize (chroma_width s) (chroma_height s)
chroma_size s lawful =
    let size = picture_size s lawful in
    record {
      across = across_some s.width s.chroma size.0 size.1 lawful.frames.whole_across;
      down = down_some (picture_height s) s.chroma size.2 (omega arith) (picture_whole s lawful);
    }

-- so each plane
pub part_size : (s : Sequence) (p : Component) → IsSequence s → IsPlaneSize (plane_width s p) (plane_height s p)
part_size s component.Y lawful = luma_size s lawful
part_size s component.U lawful = chroma_size s lawful
part_size s component.V lawful = chroma_size s lawful
