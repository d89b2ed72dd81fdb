-- What the subbands of an analysed plane are, whatever their values.
use Rattle.std.specs.Prelude.{◌≡◌, ℕ, ℤ, zero, suc, ◌+◌, ◌-◌, ◌*◌, ◌/◌, ◌^◌, ◌<◌, ◌≤◌, List, length, replicate}
use Rattle.std.specs.Prelude.{true, Some, slice_get, unsigned_abs}
use Rattle.std.specs.List.{All}
use Rattle.dirac_common.specs.Limits.{IsIndex}
use Rattle.dirac_common.specs.declared.limits.TheConstants.{LARGEST_TABLE_SIDE}
use Rattle.dirac_common.specs.Table.{Table}
use Rattle.dirac_bands.specs.Geometry.{level_of}
pub use Rattle.dirac_bands.specs.Geometry.{lowest_size}
use Rattle.dirac_parameters.specs.Counts.{counts_at}
use Rattle.dirac_coeffs.specs.declared.layout.BandLayout.{BandLayout}
use Rattle.dirac_coeffs.specs.declared.layout.CodedBand.{CodedBand}
use Rattle.dirac_coeffs.specs.Written.{AreIndicesOf, is_zero_band}
pub use Rattle.dirac_synthesis.specs.Residual.{AreSamples}
use Rattle.dirac_analysis.specs.Analysis.{Analysis}

-- two samples are at most 255 apart: samples less what is predicted for them, or samples themselves
abbrev pub AreDifferences : List ℤ → Type 0
AreDifferences xs = All (λ v. unsigned_abs v ≤ 255) xs

-- how large the values of a plane are at most after that many levels
unfoldable pub grown : ℕ → ℕ
grown zero = 255
grown (suc levels) = 128 * grown levels + 32

-- a table with all its values that can be analysed so often: its sizes are multiples of 2 ^ depth
pub record IsDivisible (depth : ℕ) (t : Table) : Type 0 where
  pub across : ℕ
  pub down : ℕ
  pub width : t.width ≡ across * 2 ^ depth
  pub height : t.height ≡ down * 2 ^ depth
  pub len : length t.values ≡ t.width * t.height

-- a band of these sizes and counts of codeblocks
pub record IsLaidOut (counts : ℕ × ℕ) (w h : ℕ) (layout : BandLayout) : Type 0 where
  pub width : layout.width ≡ w
  pub height : layout.height ≡ h
  pub across : layout.across ≡ counts.0
  pub down : layout.down ≡ counts.1

-- a coded band of these sizes, with an index for each of that many codeblocks across and down: a skipped one has that
-- of the one before it, and where none is quantised finer, all have the band's; a band of zeros has index 0 throughout
pub record IsLevelBand (counts : ℕ × ℕ) (finer width height : ℕ) (b : CodedBand) : Type 0 where
  pub index : IsIndex b.index
  pub count : length b.indices ≡ counts.0 * counts.1
  pub each : All IsIndex b.indices
  pub plain : finer ≡ 0 → b.indices ≡ replicate (counts.0 * counts.1) b.index
  pub indices : (layout : BandLayout) → IsLaidOut counts width height layout → (layout.mode ≡ 0 → finer ≡ 0)
      → AreIndicesOf layout b.index b.table.values b.indices
  pub across : b.table.width ≡ width
  pub down : b.table.height ≡ height
  pub len : length b.table.values ≡ width * height
  pub small : All (λ v. unsigned_abs v < 2 ^ 38) b.table.values
  pub zeros : is_zero_band b.table.values ≡ true → b.index ≡ 0
  pub zero_indices : is_zero_band b.table.values ≡ true → b.indices ≡ replicate (counts.0 * counts.1) 0

-- the bands of an analysis whose LL band has these sizes: those of a level are twice those of the level below
pub record AreLevelBands (counts : List (ℕ × ℕ)) (finer across down depth : ℕ) (bands : List CodedBand) : Type 0 where
  pub count : length bands ≡ 3 * depth + 1
  pub each : (n : ℕ) (b : CodedBand) → slice_get bands n ≡ Some b
      → IsLevelBand (counts_at counts (level_of n)) finer (across * 2 ^ ((n - 1) / 3)) (down * 2 ^ ((n - 1) / 3)) b

-- a table whose values can be quantised
pub record IsQuantisable (t : Table) : Type 0 where
  pub across : t.width ≤ LARGEST_TABLE_SIDE
  pub down : t.height ≤ LARGEST_TABLE_SIDE
  pub small : All (λ v. unsigned_abs v < 2 ^ 38) t.values

-- an analysed plane of such tables, of that many levels
pub record AreQuantisable (depth : ℕ) (a : Analysis) : Type 0 where
  pub count : length a.higher ≡ 3 * depth
  pub lowest : IsQuantisable a.lowest
  pub higher : (n : ℕ) (t : Table) → slice_get a.higher n ≡ Some t → IsQuantisable t
