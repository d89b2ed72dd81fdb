-- Planes that can be restored from their coded bands.
use Rattle.std.specs.Prelude.{◌≡◌, ℕ, ◌+◌, ◌≤◌, length}
use Rattle.dirac_common.specs.declared.limits.TheConstants.{LARGEST_TABLE_SIDE}
use Rattle.dirac_common.specs.Limits.{IsDepth, IsWavelet}
use Rattle.dirac_common.specs.Table.{Table}
use Rattle.dirac_synthesis.specs.declared.plane.CodedPlane.{CodedPlane}
use Rattle.dirac_synthesis.specs.Fits.{AreRestorableBands}
use Rattle.dirac_synthesis.specs.Levels.{IsLow}

-- all bands of a plane, with as many levels and counts of codeblocks as its transform has
pub record IsRestorablePlane (p : CodedPlane) : Type 0 where
  pub wavelet : IsWavelet p.transform.now.wavelet
  pub depth : IsDepth p.transform.now.depth
  pub levels : length p.transform.now.counts ≡ p.transform.now.depth + 1
  pub across : (1 ≤ p.width) × (p.width ≤ LARGEST_TABLE_SIDE)
  pub down : (1 ≤ p.height) × (p.height ≤ LARGEST_TABLE_SIDE)
  pub bands : AreRestorableBands p.transform.now p.width p.height p.bands.now

-- its LL band after the first n levels
abbrev pub IsLowOf : CodedPlane → ℕ → Table → Type 0
IsLowOf p n low = IsLow p.transform.now p.kind p.bands.now p.width p.height n low
