-- The subbands of a plane, in the order in which they are coded: LL, then HL, LH and HH of level 1, of level 2 and so
-- on.
use Rattle.std.specs.Prelude.{◌≡◌, ◌≤◌, ℕ, ℤ, ◌+◌, ◌-◌, ◌*◌, ◌%◌, ◌==◌, nat_le, if◌then◌else◌, List, [], length}
use Rattle.std.specs.Prelude.{slice_get, Option, None, Some}
use Rattle.dirac_common.specs.declared.formats.Band.{Band}
use Rattle.dirac_common.specs.declared.formats.Band.TheVariants.{LL, HL, LH, HH}
use Rattle.dirac_common.specs.declared.formats.Component.{Component}
use Rattle.dirac_common.specs.declared.formats.Component.TheVariants as component
use Rattle.dirac_common.specs.Table.{Table}
use Rattle.dirac_bands.specs.Geometry.{level_of, band_length}
pub use Rattle.dirac_header.specs.Counts.{counts_among, counts_at}
use Rattle.dirac_parameters.specs.declared.transform.Transform.{Transform}
use Rattle.dirac_coeffs.specs.declared.layout.BandLayout.{BandLayout}
use Rattle.dirac_coeffs.specs.declared.layout.CodedBand.{CodedBand}
use Rattle.dirac_picture.specs.declared.coded.CodedResidual.{CodedResidual}

-- how many there are
abbrev pub band_count : ℕ → ℕ
band_count depth = 3 * depth + 1

-- the orientation of band n
abbrev pub orientation_of : ℕ → Band
orientation_of n = if n == 0 then LL else if n % 3 == 1 then HL else if n % 3 == 2 then LH else HH

-- what band n of a plane of this size is; the counts of its level, and the codeblock mode, serve all three planes
unfoldable pub layout_of : Transform → ℕ → ℕ → ℕ → BandLayout
layout_of t width height n = record {
  band = orientation_of n;
  width = band_length width t.depth (level_of n);
  height = band_length height t.depth (level_of n);
  across = (counts_at t.counts (level_of n)).0;
  down = (counts_at t.counts (level_of n)).1;
  mode = t.mode;
}

-- the values of a band, where there is one
abbrev pub values_among : Option CodedBand → List ℤ
values_among None = []
values_among (Some b) = b.table.values

-- the values of the parent of the band behind these: of the same orientation, one level lower, from level 2 on
unfoldable pub parent_values : List CodedBand → List ℤ
parent_values before = if nat_le 4 (length before) then values_among (slice_get before (length before - 3)) else []

-- the parent of the band behind these has this table
pub record IsParentAmong (before : List CodedBand) (t : Table) : Type 0 where
  pub lower : 4 ≤ length before
  pub parent : CodedBand
  pub listed : slice_get before (length before - 3) ≡ Some parent
  pub table : t ≡ parent.table

-- the bands of a plane of a residual
abbrev pub bands_of : CodedResidual → Component → List CodedBand
bands_of r component.Y = r.y
bands_of r component.U = r.u
bands_of r component.V = r.v
