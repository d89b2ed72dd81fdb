-- What blocks are decided from.
use Rattle.std.specs.Prelude.{◌≡◌, ℕ, ◌≤◌, Option}
use Rattle.std.specs.List.{All}
use Rattle.std.specs.Option.{ForSome}
use Rattle.dirac_common.specs.declared.limits.TheConstants.{MOST_SUPERBLOCKS}
use Rattle.dirac_common.specs.Table.{Table}
use Rattle.dirac_types.specs.declared.settings.Settings.{Settings}
use Rattle.dirac_common.specs.declared.picture.Picture.{Picture}
use Rattle.dirac_common.specs.declared.formats.BlockGrid.{BlockGrid}
use Rattle.dirac_common.specs.Ratios.{ratio_across, ratio_down}
use Rattle.dirac_sequence.specs.Written.{sequence_of}
use Rattle.dirac_parameters.specs.Grids.{grid_of}
use Rattle.dirac_vectors.specs.Predictions.{IsShortVector}
use Rattle.dirac_picture.specs.Grammar.{superblocks_over}
use Rattle.dirac_upconvert.specs.HalfSamples.{IsSample}
use Rattle.dirac_upconvert.specs.SubSamples.{Up}
use Rattle.dirac_search.specs.Candidates.{Vectors}

-- a reference: its luma with its half samples, and the vectors that were found in it
pub record View : Type 0 where
  pub up : Up
  pub field : Vectors

-- the source's planes, the references, the blocks' grid, superblocks across and down, and the settings that count
pub record Deciding : Type 0 where
  pub y : Table
  pub u : Table
  pub v : Table
  pub first : View
  pub second : Option View
  pub grid : BlockGrid
  pub across : ℕ
  pub down : ℕ
  pub across_ratio : ℕ
  pub down_ratio : ℕ
  pub precision : ℕ
  pub bias : ℕ
  pub alike : ℕ

-- the sizes of a field, in superblocks
pub record IsFieldSize (f : Vectors) : Type 0 where
  pub most_across : f.across ≤ MOST_SUPERBLOCKS
  pub most_down : f.down ≤ MOST_SUPERBLOCKS

-- a reference with a vector of 16 bits for each block of that many superblocks
pub record IsView (across down : ℕ) (r : View) : Type 0 where
  pub same_across : r.field.across ≡ across
  pub same_down : r.field.down ≡ down
  pub of_16_bits : All IsShortVector r.field.vectors
  pub size : IsFieldSize r.field

-- what can be decided from
pub record IsDeciding (d : Deciding) : Type 0 where
  pub y : All IsSample d.y.values
  pub u : All IsSample d.u.values
  pub v : All IsSample d.v.values
  pub columns : (2 ≤ d.grid.xbsep) × (d.grid.xbsep ≤ 16)
  pub rows : (2 ≤ d.grid.ybsep) × (d.grid.ybsep ≤ 16)
  pub across_ratio : (1 ≤ d.across_ratio) × (d.across_ratio ≤ 2)
  pub down_ratio : (1 ≤ d.down_ratio) × (d.down_ratio ≤ 2)
  pub precision : d.precision ≤ 3
  pub bias : d.bias ≤ 255
  pub first : IsView d.across d.down d.first
  pub second : ForSome d.second (IsView d.across d.down)

-- what the blocks of a picture are decided from, by the settings
abbrev pub deciding : Settings → Picture → View → Option View → Deciding
deciding s p first second = record {
  y = p.y;
  u = p.u;
  v = p.v;
  first = first;
  second = second;
  grid = grid_of s.blocks;
  across = superblocks_over p.y.width (grid_of s.blocks).xbsep;
  down = superblocks_over p.y.height (grid_of s.blocks).ybsep;
  across_ratio = ratio_across (sequence_of s).chroma;
  down_ratio = ratio_down (sequence_of s).chroma;
  precision = s.precision;
  bias = s.bias;
  alike = s.alike;
}

-- a picture whose planes have samples alone
pub record IsPictureOfSamples (p : Picture) : Type 0 where
  pub y : All IsSample p.y.values
  pub u : All IsSample p.u.values
  pub v : All IsSample p.v.values

-- a reference with a vector of 16 bits for each block of the table that covers the source
pub record IsSearched (s : Settings) (p : Picture) (r : View) : Type 0 where
  pub same_across : r.field.across ≡ superblocks_over p.y.width (grid_of s.blocks).xbsep
  pub same_down : r.field.down ≡ superblocks_over p.y.height (grid_of s.blocks).ybsep
  pub of_16_bits : All IsShortVector r.field.vectors
