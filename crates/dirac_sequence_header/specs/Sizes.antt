-- The sizes of a sequence's pictures and of their planes.
use Rattle.std.specs.Prelude.{ℕ, ◌/◌, if◌then◌else◌}
use Rattle.dirac_common.specs.declared.formats.Component.{Component}
use Rattle.dirac_common.specs.declared.formats.Component.TheVariants as component
use Rattle.dirac_sequence_header.specs.declared.sequence.Sequence.{Sequence}
use Rattle.dirac_common.specs.Ratios.{ratio_across, ratio_down}

-- the rows of a picture: those of a frame, or half of them where it is a field
abbrev pub picture_height : Sequence → ℕ
picture_height s = if s.fields then s.height / 2 else s.height

-- the columns of a chroma plane
abbrev pub chroma_width : Sequence → ℕ
chroma_width s = s.width / ratio_across s.chroma

-- its rows
abbrev pub chroma_height : Sequence → ℕ
chroma_height s = picture_height s / ratio_down s.chroma

-- the columns of a plane
abbrev pub plane_width : Sequence → Component → ℕ
plane_width s component.Y = s.width
plane_width s component.U = chroma_width s
plane_width s component.V = chroma_width s

-- its rows
abbrev pub plane_height : Sequence → Component → ℕ
plane_height s component.Y = picture_height s
plane_height s component.U = chroma_height s
plane_height s component.V = chroma_height s
