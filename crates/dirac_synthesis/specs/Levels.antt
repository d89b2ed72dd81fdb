-- The bands of a level, and the LL band of the next one.
use Rattle.std.specs.Prelude.{◌≡◌, ℕ, ◌+◌, ◌*◌, ◌^◌, ◌≤◌, List, Some, slice_get, unsigned_abs}
use Rattle.std.specs.List.{All}
use Rattle.dirac_common.specs.declared.limits.TheConstants.{LARGEST_SIDE}
use Rattle.dirac_common.specs.Limits.{IsWavelet}
use Rattle.dirac_common.specs.Table.{Table}
use Rattle.dirac_common.specs.declared.formats.Kind.{Kind}
use Rattle.dirac_bands.specs.Geometry.{lowest_size}
use Rattle.dirac_bands.specs.Interleaving.{joined}
use Rattle.dirac_parameters.specs.declared.transform.Transform.{Transform}
use Rattle.dirac_coeffs.specs.declared.layout.CodedBand.{CodedBand}
use Rattle.dirac_lift.specs.Level.{synthesised}
use Rattle.dirac_synthesis.specs.declared.bands.Level.{Level}
use Rattle.dirac_synthesis.specs.declared.bands.LevelBands.{LevelBands}
use Rattle.dirac_synthesis.specs.declared.bands.Synthesis.{Synthesis}
use Rattle.dirac_synthesis.specs.Codeblocks.{HasIndices, restored_band}
use Rattle.dirac_synthesis.specs.Fits.{IsBesides}
use Rattle.dirac_synthesis.specs.Residual.{after_levels}

-- what can be synthesised: an LL band and the three coded bands beside it, which have an index for each codeblock
pub record IsLevel (by : Synthesis) (low : Table) (bands : LevelBands) : Type 0 where
  pub wavelet : IsWavelet by.wavelet
  pub across : low.width ≤ LARGEST_SIDE
  pub down : low.height ≤ LARGEST_SIDE
  pub hl : IsBesides low bands.hl.now
  pub lh : IsBesides low bands.lh.now
  pub hh : IsBesides low bands.hh.now
  pub hl_indices : HasIndices by.counts bands.hl.now
  pub lh_indices : HasIndices by.counts bands.lh.now
  pub hh_indices : HasIndices by.counts bands.hh.now
  pub small : All (λ v. unsigned_abs v ≤ 2 ^ 103) low.values

-- the plane that an LL band and what the bands beside it stand for interleave to
abbrev pub joined_by : (CodedBand → Table) → Table → LevelBands → Table
joined_by stands low bands = joined low (stands bands.hl.now) (stands bands.lh.now) (stands bands.hh.now)

-- the coefficients of a level's plane
abbrev pub level_plane : Synthesis → Table → LevelBands → Table
level_plane by low bands = joined_by (restored_band by.kind by.counts) low bands

-- the LL band of the next level
abbrev pub next_low : Synthesis → Table → LevelBands → Table
next_low by low bands = synthesised by.wavelet (level_plane by low bands)

-- level n + 1 of a plane, and how it is synthesised
pub record IsLevelOf (t : Transform) (kind : Kind) (bands : List CodedBand) (n : ℕ) (l : Level) : Type 0 where
  pub wavelet : l.by.wavelet ≡ t.wavelet
  pub of_kind : l.by.kind ≡ kind
  pub counts : slice_get t.counts (n + 1) ≡ Some l.by.counts
  pub hl : slice_get bands (3 * n + 1) ≡ Some l.bands.hl.now
  pub lh : slice_get bands (3 * n + 2) ≡ Some l.bands.lh.now
  pub hh : slice_get bands (3 * n + 3) ≡ Some l.bands.hh.now

-- the LL band after the first n levels of a plane of this size
pub record IsLow (t : Transform) (kind : Kind) (bands : List CodedBand) (w h n : ℕ) (low : Table) : Type 0 where
  pub value : low ≡ after_levels t kind bands n
  pub across : low.width ≡ lowest_size w t.depth * 2 ^ n
  pub down : low.height ≡ lowest_size h t.depth * 2 ^ n
  pub bound : All (λ v. unsigned_abs v ≤ 2 ^ 77 * 73 ^ n) low.values
