-- The bands of a level that are restored in 32 bits.
use Rattle.dirac_common.specs.declared.formats.Kind.{Kind}
use Rattle.dirac_common.specs.Table.{Table}
use Rattle.dirac_synthesis.specs.declared.bands.LevelBands.{LevelBands}
use Rattle.dirac_synthesis.specs.Fits.{IsBesides}
use Rattle.dirac_synthesis.specs.Halves.{IsNarrowBand}

-- an LL band and the coded bands beside it, whose coefficients are at most 4,095
pub record IsNarrowLevel (kind : Kind) (low : Table) (bands : LevelBands) : Type 0 where
  pub hl : IsBesides low bands.hl.now
  pub lh : IsBesides low bands.lh.now
  pub hh : IsBesides low bands.hh.now
  pub right : IsNarrowBand kind bands.hl.now
  pub below : IsNarrowBand kind bands.lh.now
  pub corner : IsNarrowBand kind bands.hh.now
