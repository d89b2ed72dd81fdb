-- One level of an analysis: what is analysed, and its four bands.
use Rattle.std.specs.Prelude.{◌≡◌, ℕ, ◌%◌, ◌^◌, ◌≤◌, unsigned_abs}
use Rattle.std.specs.List.{All}
use Rattle.dirac_common.specs.declared.limits.TheConstants.{LARGEST_TABLE_SIDE}
use Rattle.dirac_common.specs.Limits.{IsWavelet}
use Rattle.dirac_common.specs.Table.{Table}
use Rattle.dirac_bands.specs.Interleaving.{band_of}
use Rattle.dirac_lift.specs.Held.{held_plane}
use Rattle.dirac_lift.specs.Level.{analysed}
use Rattle.dirac_analysis.specs.declared.split.SplitLevel.{SplitLevel}

-- a plane of even sizes and small values
pub record IsSplittable (wavelet : ℕ) (t : Table) : Type 0 where
  pub known : IsWavelet wavelet
  pub across : (t.width % 2 ≡ 0) × (t.width ≤ LARGEST_TABLE_SIDE)
  pub down : (t.height % 2 ≡ 0) × (t.height ≤ LARGEST_TABLE_SIDE)
  pub small : All (λ v. unsigned_abs v ≤ 2 ^ 29) t.values

-- the four bands that its analysis leaves interleaved
pub record AreFourBands (wavelet : ℕ) (t : Table) (l : SplitLevel) : Type 0 where
  pub ll : held_plane l.ll ≡ band_of (analysed wavelet t) 0 0
  pub hl : l.hl ≡ band_of (analysed wavelet t) 1 0
  pub lh : l.lh ≡ band_of (analysed wavelet t) 0 1
  pub hh : l.hh ≡ band_of (analysed wavelet t) 1 1
