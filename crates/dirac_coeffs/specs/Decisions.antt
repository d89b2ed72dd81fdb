-- The decisions that a subband is coded by, told from the finished band: contexts are read off the values
-- of the whole, and nothing is said of the order in which a reader fills them in.
use Rattle.std.specs.Prelude.{ℕ, zero, suc, ℤ, ◌+◌, Bool, true, false, List, [], ◌∷◌, ◌++◌}
use Rattle.dirac_arith.specs.declared.contexts.TheConstants.{ZERO_FLAG}
use Rattle.dirac_common.specs.declared.formats.Band.{Band}
use Rattle.dirac_arith.specs.Interval.{Decision}
use Rattle.dirac_bands.specs.Geometry.{edge_of}
use Rattle.dirac_coeffs.specs.declared.layout.BandLayout.{BandLayout}
use Rattle.dirac_coeffs.specs.Contexts.{band_value, value_left_of, value_above, value_in_corner, parent_of}
use Rattle.dirac_coeffs.specs.Contexts.{follow_among, sign_of}
use Rattle.dirac_coeffs.specs.Contexts.{sign_neighbour, value_spelling}
use Rattle.dirac_coeffs.specs.Indices.{offset_part}
use Rattle.dirac_coeffs.specs.Layouts.{codeblock_extent, is_flagged}

-- what the contexts of a band's values depend on besides the values
pub record Frame : Type 0 where
  pub band : Band
  pub width : ℕ
  pub parent : List ℤ

-- what a codeblock carries besides its values: its zero flag, and the offset of its index
pub record Mark : Type 0 where
  pub skipped : Bool
  pub offset : ℤ

-- a mark for each codeblock, by its row and its place in that
abbrev pub Marks : Type 0
Marks = ℕ → ℕ → Mark

-- those of a band with this parent
abbrev pub frame_of : BandLayout → List ℤ → Frame
frame_of layout parent = record { band = layout.band; width = layout.width; parent = parent }

-- the follow contexts of the value in column x of row y
abbrev pub follow_here : Frame → List ℤ → ℕ → ℕ → List ℕ
follow_here f xs x y =
    follow_among
    (value_left_of f.width xs x y)
    (value_above f.width xs x y)
    (value_in_corner f.width xs x y)
    (parent_of f.width f.parent x y)

-- the context of its sign
abbrev pub sign_here : Frame → List ℤ → ℕ → ℕ → ℕ
sign_here f xs x y = sign_of (sign_neighbour f.band (value_left_of f.width xs x y) (value_above f.width xs x y))

-- the value in column x of row y
abbrev pub value_part : Frame → List ℤ → ℕ → ℕ → List Decision
value_part f xs x y =
    value_spelling
    f.band
    (value_left_of f.width xs x y)
    (value_above f.width xs x y)
    (value_in_corner f.width xs x y)
    (parent_of f.width f.parent x y)
    (band_value f.width xs x y)

-- n values of row y, from column x on
unfoldable pub row_part : Frame → List ℤ → ℕ → ℕ → ℕ → List Decision
row_part f xs y x zero = []
row_part f xs y x (suc n) = row_part f xs y x n ++ value_part f xs (x + n) y

-- n rows of `count` values each, from column x of row y on
unfoldable pub rows_part : Frame → List ℤ → ℕ → ℕ → ℕ → ℕ → List Decision
rows_part f xs x count y zero = []
rows_part f xs x count y (suc n) = rows_part f xs x count y n ++ row_part f xs (y + n) x count

-- a codeblock's decisions behind its zero flag, where it has one; true skips them
abbrev pub flagged_part : Bool → Bool → List Decision → List Decision
flagged_part false skipped ds = ds
flagged_part true true ds = (ZERO_FLAG, true) ∷ []
flagged_part true false ds = (ZERO_FLAG, false) ∷ ds

-- codeblock cx of row cy of codeblocks: behind its flag an offset, where the mode has one, and the values
abbrev pub block_part : BandLayout → List ℤ → List ℤ → ℕ → ℕ → Mark → List Decision
block_part layout parent xs cy cx mark =
    flagged_part
    (is_flagged layout)
    mark.skipped
    (offset_part layout.mode mark.offset
    ++ rows_part
    (frame_of layout parent)
    xs
    (edge_of layout.width layout.across cx)
    (codeblock_extent layout.width layout.across cx)
    (edge_of layout.height layout.down cy)
    (codeblock_extent layout.height layout.down cy))

-- the first n codeblocks of row cy of codeblocks
unfoldable pub blocks_part : BandLayout → List ℤ → List ℤ → (ℕ → Mark) → ℕ → ℕ → List Decision
blocks_part layout parent xs marks cy zero = []
blocks_part layout parent xs marks cy (suc n) =
    blocks_part layout parent xs marks cy n ++ block_part layout parent xs cy n (marks n)

-- the first n rows of codeblocks
unfoldable pub bands_part : BandLayout → List ℤ → List ℤ → Marks → ℕ → List Decision
bands_part layout parent xs marks zero = []
bands_part layout parent xs marks (suc n) =
    bands_part layout parent xs marks n ++ blocks_part layout parent xs (marks n) n layout.across

-- the whole band
abbrev pub band_decisions : BandLayout → List ℤ → List ℤ → Marks → List Decision
band_decisions layout parent xs marks = bands_part layout parent xs marks layout.down
