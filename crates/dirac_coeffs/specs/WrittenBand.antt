-- A subband that is written: what holds of it, and the decisions of its parts.
use Rattle.std.specs.Prelude.{◌≡◌, ℕ, ◌*◌, ◌<◌, List, ◌++◌, length}
use Rattle.dirac_arith.specs.Interval.{Decision}
use Rattle.dirac_bands.specs.Geometry.{edge_of}
use Rattle.dirac_coeffs.specs.declared.layout.WrittenBand.{WrittenBand}
use Rattle.dirac_coeffs.specs.declared.spans.Codeblock.{Codeblock}
use Rattle.dirac_coeffs.specs.Carried.{AreSmall}
use Rattle.dirac_coeffs.specs.Decisions.{Frame, Marks, bands_part, block_part, blocks_part, frame_of, rows_part}
use Rattle.dirac_coeffs.specs.Indices.{offset_part}
use Rattle.dirac_coeffs.specs.Layouts.{IsBandLayout, codeblock_extent}
use Rattle.dirac_coeffs.specs.Lent.{numbers_in}
use Rattle.dirac_coeffs.specs.Written.{block_of, marks_of}

-- sizes that a band may have, as many values and indices as these say, and magnitudes that can be spelt
pub record IsBandToWrite (b : WrittenBand) : Type 0 where
  pub layout : IsBandLayout b.layout
  pub len : length (numbers_in b.values) ≡ b.layout.width * b.layout.height
  pub magnitudes_bounded : AreSmall (numbers_in b.values)
  pub count : length b.indices.now ≡ b.layout.across * b.layout.down

-- a codeblock of such a band
pub record IsBlockToWrite (b : WrittenBand) (codeblock : Codeblock) : Type 0 where
  pub writable : IsBandToWrite b
  pub row : codeblock.row < b.layout.down
  pub column : codeblock.column < b.layout.across

-- what the contexts of its values are read off
abbrev pub frame_in : WrittenBand → Frame
frame_in b = frame_of b.layout (numbers_in b.parent)

-- the marks of its codeblocks
abbrev pub marks_in : WrittenBand → Marks
marks_in b = marks_of b.layout b.index (numbers_in b.values) b.indices.now

-- the values of codeblock cx of row cy
abbrev pub values_of_block : WrittenBand → ℕ → ℕ → List Decision
values_of_block b cy cx =
    rows_part
    (frame_in b)
    (numbers_in b.values)
    (edge_of b.layout.width b.layout.across cx)
    (codeblock_extent b.layout.width b.layout.across cx)
    (edge_of b.layout.height b.layout.down cy)
    (codeblock_extent b.layout.height b.layout.down cy)

-- its index and values, where it isn't skipped
abbrev pub unskipped_block : WrittenBand → ℕ → ℕ → List Decision
unskipped_block b cy cx = offset_part b.layout.mode (marks_in b cy cx).offset ++ values_of_block b cy cx

-- the whole codeblock
abbrev pub whole_block : WrittenBand → ℕ → ℕ → List Decision
whole_block b cy cx = block_part b.layout (numbers_in b.parent) (numbers_in b.values) cy cx (marks_in b cy cx)

-- the first n codeblocks of row cy
abbrev pub blocks_of_row : WrittenBand → ℕ → ℕ → List Decision
blocks_of_row b cy n = blocks_part b.layout (numbers_in b.parent) (numbers_in b.values) (marks_in b cy) cy n

-- the first n rows of codeblocks
abbrev pub rows_of_blocks : WrittenBand → ℕ → List Decision
rows_of_blocks b n = bands_part b.layout (numbers_in b.parent) (numbers_in b.values) (marks_in b) n

-- its block
abbrev pub block_of_band : WrittenBand → List ℕ
block_of_band b = block_of b.layout (numbers_in b.parent) b.index (numbers_in b.values) b.indices.now
