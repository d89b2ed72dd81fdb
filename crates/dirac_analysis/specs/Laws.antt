-- What holds of the subbands of all planes.
use Rattle.std.specs.Prelude.{◌≡◌, ℕ, ◌*◌, ◌≤◌, length}
use Rattle.dirac_common.specs.Limits.{IsIndex, IsWavelet}
use Rattle.dirac_common.specs.declared.formats.Kind.{Kind}
use Rattle.dirac_common.specs.Table.{Table}
use Rattle.dirac_bands.specs.Geometry.{lowest_size}
use Rattle.dirac_parameters.specs.declared.transform.Transform.{Transform}
use Rattle.dirac_synthesis.specs.Residual.{residual}
use Rattle.dirac_analysis.specs.Analysis.{plane_bands}
use Rattle.dirac_analysis.specs.Fits.{AreDifferences, AreLevelBands}

-- the bands of a plane of samples, or of differences of samples, have the sizes of their levels and indices that can be
-- written, and their coefficients stay below 2^38
abbrev pub PlanesFit : Type 0
PlanesFit =
    (kind : Kind) (transform : Transform) (finer index : ℕ) (t : Table) → IsWavelet transform.wavelet
    → transform.depth ≤ 4 → IsIndex index → AreDifferences t.values
    → AreLevelBands transform.counts finer (lowest_size t.width transform.depth)
    (lowest_size t.height transform.depth) transform.depth (plane_bands kind transform finer index t)

-- at index 0 nothing is lost
abbrev pub PlanesAreKept : Type 0
PlanesAreKept =
    (kind : Kind) (transform : Transform) (finer : ℕ) (t : Table) → IsWavelet transform.wavelet
    → length t.values ≡ t.width * t.height
    → residual transform kind (plane_bands kind transform finer 0 t) t.width t.height ≡ t
