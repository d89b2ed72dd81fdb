-- The sizes of the pictures of settings, and of their planes.
use Rattle.std.specs.Prelude.{ℕ, ◌/◌, ◌==◌, if◌then◌else◌}
use Rattle.dirac_common.specs.declared.formats.Component.{Component}
use Rattle.dirac_common.specs.declared.formats.Component.TheVariants as component
use Rattle.dirac_types.specs.declared.settings.Settings.{Settings}
use Rattle.dirac_types.specs.Settings.{step_across, step_down}

-- the rows of a picture: those of a frame, or half of them where each picture is a field
abbrev pub picture_height : Settings → ℕ
picture_height t = if t.fields == 1 then t.height / 2 else t.height

-- the columns of a plane
abbrev pub plane_width : Settings → Component → ℕ
plane_width t component.Y = t.width
plane_width t component.U = t.width / step_across t.chroma
plane_width t component.V = t.width / step_across t.chroma

-- its rows
abbrev pub plane_height : Settings → Component → ℕ
plane_height t component.Y = picture_height t
plane_height t component.U = picture_height t / step_down t.chroma
plane_height t component.V = picture_height t / step_down t.chroma
