-- What the bands of a plane are, whatever their values.
use Rattle.std.specs.Prelude.{◌≡◌, ℕ, ◌+◌, ◌-◌, ◌*◌, ◌^◌, ◌<◌, List, length, Some, slice_get, unsigned_abs}
use Rattle.std.specs.List.{All}
use Rattle.dirac_common.specs.Limits.{IsIndex}
use Rattle.dirac_common.specs.Table.{Table}
use Rattle.dirac_bands.specs.Geometry.{level_of, band_length}
use Rattle.dirac_parameters.specs.Counts.{counts_at}
use Rattle.dirac_parameters.specs.declared.transform.Transform.{Transform}
use Rattle.dirac_coeffs.specs.declared.layout.CodedBand.{CodedBand}
use Rattle.dirac_synthesis.specs.Codeblocks.{HasIndices}

-- the size across or down of band n, in a plane of this size
abbrev pub length_of_band : ℕ → ℕ → ℕ → ℕ
length_of_band size depth n = band_length size depth (level_of n)

-- band n of a plane of this size: an index of a quantiser, one for each codeblock, and a table of the band's sizes
-- whose values can be spelt
pub record IsBandOf (t : Transform) (width height n : ℕ) (b : CodedBand) : Type 0 where
  pub index : IsIndex b.index
  pub indices : HasIndices (counts_at t.counts (level_of n)) b
  pub across : b.table.width ≡ length_of_band width t.depth n
  pub down : b.table.height ≡ length_of_band height t.depth n
  pub small : All (λ v. unsigned_abs v < 2 ^ 39 - 1) b.table.values

-- the bands of a plane of this size, all of them
pub record AreRestorableBands (t : Transform) (width height : ℕ) (bands : List CodedBand) : Type 0 where
  pub count : length bands ≡ 3 * t.depth + 1
  pub each : (n : ℕ) (b : CodedBand) → slice_get bands n ≡ Some b → IsBandOf t width height n b

-- HL, LH or HH of the level that an LL band of these sizes belongs to
pub record IsBesides (low : Table) (b : CodedBand) : Type 0 where
  pub index : IsIndex b.index
  pub across : b.table.width ≡ low.width
  pub down : b.table.height ≡ low.height
  pub small : All (λ v. unsigned_abs v < 2 ^ 39 - 1) b.table.values
