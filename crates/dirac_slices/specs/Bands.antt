-- The rows of the call that reads subbands: one for each orientation of each plane.
use Rattle.std.specs.Prelude.{ℕ, ◌*◌, ◌/◌, ◌%◌, ◌<◌, ◌⊎◌, List, Option, None, Some, slice_index_or}
use Rattle.dirac_common.specs.declared.formats.Component.{Component}
use Rattle.dirac_bits.specs.Cursor.{Cursor}
use Rattle.dirac_sequence_header.specs.declared.sequence.Sequence.{Sequence}
use Rattle.dirac_sequence_header.specs.Sizes.{chroma_height, chroma_width, picture_height, plane_height, plane_width}
use Rattle.dirac_parameters.specs.declared.transform.Transform.{Transform}
use Rattle.dirac_coeffs.specs.declared.layout.CodedBand.{CodedBand}
use Rattle.dirac_coeffs.specs.Sites.{Found}
use Rattle.dirac_picture.specs.declared.sites.FoundPlanes.{FoundPlanes}
use Rattle.dirac_picture.specs.declared.coded.CodedResidual.{CodedResidual}
use Rattle.dirac_picture.specs.Bands.{band_count}
use Rattle.dirac_picture.specs.Chains.{sites_among, AreFound, IsBandRefused, IsMissing, IsWholeChain, ReadsPlane}
use Rattle.dirac_picture.specs.Fits.{AreBandsOf, IsPlaneSize}
use Rattle.dirac_slices.specs.declared.planes.ThreePlanes.{ThreePlanes}
use Rattle.dirac_slices.specs.Places.{component_at}

-- the planes of a picture have sizes within the limits
pub record ArePlaneSizes (s : Sequence) : Type 0 where
  pub luma : IsPlaneSize s.width (picture_height s)
  pub chroma : IsPlaneSize (chroma_width s) (chroma_height s)

-- an orientation of a plane of this size: its bands, or none where one of them is refused
abbrev pub IsOrientation : Transform → ℕ → ℕ → List (Option Found) → ℕ → Option (List CodedBand) → Type 0
IsOrientation t width height sites k None = IsBandRefused t width height sites k
IsOrientation t width height sites k (Some chain) = IsWholeChain t width height sites k chain

-- row r: rows 0 to 3 are LL, HL, LH and HH of Y, then those of U and of V follow
abbrev pub IsOrientationAt : Sequence → Transform → FoundPlanes → ℕ → Option (List CodedBand) → Type 0
IsOrientationAt s t found r o =
    IsOrientation t (plane_width s (component_at (r / 4))) (plane_height s (component_at (r / 4)))
    (sites_among found (component_at (r / 4))) (r % 4) o

-- the first four of these rows are the orientations of a plane of this size
abbrev pub AreOrientations : Transform → ℕ → ℕ → List (Option Found) → List (Option (List CodedBand)) → Type 0
AreOrientations t width height sites rows =
    (k : ℕ) (d : Option (List CodedBand)) → k < 4 → IsOrientation t width height sites k (slice_index_or rows k d)

-- a band of a plane of this size is refused
pub record IsPlaneRefused (t : Transform) (width height : ℕ) (sites : List (Option Found)) : Type 0 where
  pub orientation : ℕ
  pub of_four : orientation < 4
  pub band : IsBandRefused t width height sites orientation

-- a band of one of a picture's planes is refused
pub record IsOneRefused (s : Sequence) (t : Transform) (found : FoundPlanes) : Type 0 where
  pub component : Component
  pub plane : IsPlaneRefused t (plane_width s component) (plane_height s component) (sites_among found component)

-- a block of a picture's bands isn't found, or a band is refused whose block was
abbrev pub AreRefused : Sequence → Transform → Cursor → Type 0
AreRefused s t c =
    IsMissing (3 * band_count t.depth) c
    ⊎ ((found : FoundPlanes) × (d : Cursor) × AreFound t c found d × IsOneRefused s t found)

-- the residual of these planes
abbrev pub residual_of_planes : Transform → ThreePlanes → CodedResidual
residual_of_planes t p = record { transform = t; y = p.y; u = p.u; v = p.v }

-- planes of a picture of this sequence
pub record AreLawfulPlanes (s : Sequence) (t : Transform) (p : ThreePlanes) : Type 0 where
  pub y : AreBandsOf t s.width (picture_height s) p.y
  pub u : AreBandsOf t (chroma_width s) (chroma_height s) p.u
  pub v : AreBandsOf t (chroma_width s) (chroma_height s) p.v

-- planes of a picture of this sequence that are read where their blocks were found
pub record AreReadAs (s : Sequence) (t : Transform) (found : FoundPlanes) (p : ThreePlanes) : Type 0 where
  pub y : ReadsPlane t s.width (picture_height s) found.y.items p.y
  pub u : ReadsPlane t (chroma_width s) (chroma_height s) found.u.items p.u
  pub v : ReadsPlane t (chroma_width s) (chroma_height s) found.v.items p.v
  pub lawful : AreLawfulPlanes s t p
