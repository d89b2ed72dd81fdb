-- How a subband is written: the marks of its codeblocks, its block, and its bits.
use Rattle.std.specs.Prelude.{◌≡◌, ℕ, zero, suc, ℤ, pos, ◌+◌, ◌<◌, ◌-ℤ◌, ◌&&◌, Bool, true, List, ◌++◌, length}
use Rattle.std.specs.Prelude.{if◌then◌else◌}
use Rattle.std.specs.List.{list_all}
use Rattle.dirac_common.specs.Bits.{bits_of}
use Rattle.dirac_common.specs.Numbers.{uint}
use Rattle.dirac_arith.specs.Written.{flush}
pub use Rattle.dirac_bits.specs.Spelling.{SpelledBehind}
pub use Rattle.dirac_bits.specs.Writing.{up_to_byte}
use Rattle.dirac_bands.specs.Geometry.{edge_of}
use Rattle.dirac_coeffs.specs.declared.layout.BandLayout.{BandLayout}
use Rattle.dirac_coeffs.specs.declared.layout.CodedBand.{CodedBand}
use Rattle.dirac_coeffs.specs.Contexts.{band_value, is_zero}
use Rattle.dirac_coeffs.specs.Decisions.{Marks, band_decisions}
use Rattle.dirac_coeffs.specs.Indices.{place_of, index_at, index_before}
use Rattle.dirac_coeffs.specs.Layouts.{codeblock_extent, is_flagged}

-- whether all numbers below n pass
unfoldable pub all_below : (ℕ → Bool) → ℕ → Bool
all_below p zero = true
all_below p (suc n) = p n && all_below p n

-- whether the values of codeblock cx of row cy are zeros
abbrev pub is_zero_block : BandLayout → List ℤ → ℕ → ℕ → Bool
is_zero_block layout xs cy cx =
    all_below
    (λ i. all_below
    (λ j. is_zero (band_value layout.width xs (edge_of layout.width layout.across cx + i)
    (edge_of layout.height layout.down cy + j)))
    (codeblock_extent layout.height layout.down cy))
    (codeblock_extent layout.width layout.across cx)

-- a zero flag is true exactly for a codeblock of zeros or without values, and an offset leads from index to index
abbrev pub marks_of : BandLayout → ℕ → List ℤ → List ℕ → Marks
marks_of layout index xs indices cy cx = record {
  skipped = is_zero_block layout xs cy cx;
  offset = pos (index_at indices (place_of layout cy cx))
      -ℤ pos (index_before index indices (place_of layout cy cx));
}

-- the block of a band
abbrev pub block_of : BandLayout → List ℤ → ℕ → List ℤ → List ℕ → List ℕ
block_of layout parent index xs indices =
    flush (band_decisions layout parent xs (marks_of layout index xs indices))

-- indices that a band's codeblocks can have: a skipped codeblock has that of the codeblock before it, and in mode 0
-- each codeblock has
pub record AreIndicesOf (layout : BandLayout) (index : ℕ) (xs : List ℤ) (indices : List ℕ) : Type 0 where
  pub skipped : (cy cx : ℕ) → cy < layout.down → cx < layout.across → is_flagged layout ≡ true
      → is_zero_block layout xs cy cx ≡ true
      → index_at indices (place_of layout cy cx) ≡ index_before index indices (place_of layout cy cx)
  pub plain : (cy cx : ℕ) → cy < layout.down → cx < layout.across → layout.mode ≡ 0
      → index_at indices (place_of layout cy cx) ≡ index_before index indices (place_of layout cy cx)

-- whether a band has zeros alone
abbrev pub is_zero_band : List ℤ → Bool
is_zero_band xs = list_all is_zero xs

-- the bits with a band behind them that has a block
abbrev pub with_band_block : ℕ → List ℕ → List Bool → List Bool
with_band_block index block bits = up_to_byte ((bits ++ uint (length block)) ++ uint index) ++ bits_of block

-- the bits with a band behind them; a band of zeros has length 0
abbrev pub with_band : BandLayout → List ℤ → CodedBand → List Bool → List Bool
with_band layout parent b bits =
    if is_zero_band b.table.values then up_to_byte bits ++ uint 0
    else with_band_block b.index (block_of layout parent b.index b.table.values b.indices) (up_to_byte bits)
