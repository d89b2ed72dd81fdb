-- Where a subband's codeblocks lie.
use Rattle.std.specs.Prelude.{ℕ, ◌+◌, ◌-◌, ◌<◌, ◌≤◌, ◌==◌, Bool, not, ◌&&◌}
use Rattle.dirac_common.specs.declared.limits.TheConstants.{LARGEST_TABLE_SIDE, MOST_CODEBLOCKS}
use Rattle.dirac_bands.specs.Geometry.{edge_of}
use Rattle.dirac_coeffs.specs.declared.layout.BandLayout.{BandLayout}
use Rattle.dirac_coeffs.specs.declared.spans.Codeblock.{Codeblock}

-- sizes and counts are from 1 to 8,192, and the codeblock mode is 0 or 1
pub record IsBandLayout (layout : BandLayout) : Type 0 where
  pub width : (1 ≤ layout.width) × (layout.width ≤ LARGEST_TABLE_SIDE)
  pub height : (1 ≤ layout.height) × (layout.height ≤ LARGEST_TABLE_SIDE)
  pub across : (1 ≤ layout.across) × (layout.across ≤ MOST_CODEBLOCKS)
  pub down : (1 ≤ layout.down) × (layout.down ≤ MOST_CODEBLOCKS)
  pub mode : layout.mode ≤ 1

-- how many columns or rows codeblock c of these has
abbrev pub codeblock_extent : ℕ → ℕ → ℕ → ℕ
codeblock_extent size count c = edge_of size count (c + 1) - edge_of size count c

-- whether a subband with these codeblocks across and down is divided: it has more than one
abbrev pub is_parted : ℕ × ℕ → Bool
is_parted counts = not (counts.0 == 1 && counts.1 == 1)

-- whether each codeblock begins with a zero flag: where there is more than one
abbrev pub is_flagged : BandLayout → Bool
is_flagged layout = is_parted (layout.across, layout.down)

-- a codeblock of a band of this layout
pub record IsCodeblockOf (l : BandLayout) (codeblock : Codeblock) : Type 0 where
  pub layout : IsBandLayout l
  pub row : codeblock.row < l.down
  pub column : codeblock.column < l.across
