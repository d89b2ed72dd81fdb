-- A subband in a payload (wavelet coefficients, Dirac specification, section 13): the length of its block, and where
-- that isn't 0 its quantiser index and the block.
use Rattle.std.specs.Prelude.{◌≡◌, ℕ, ℤ, pos, ◌*◌, ◌==◌, if◌then◌else◌, List, [], length, All, replicate, Option, Some}
use Rattle.std.specs.Prelude.{None, Result, Ok, Err}
use Rattle.std.specs.Borrow.{Bor}
use Rattle.dirac_common.specs.declared.limits.TheConstants.{LARGEST_INDEX}
use Rattle.dirac_common.specs.Limits.{IsIndex}
use Rattle.dirac_common.specs.declared.faults.Cause.{Cause}
use Rattle.dirac_common.specs.declared.faults.Cause.TheVariants.{QuantIndex}
use Rattle.dirac_common.specs.Table.{Table}
use Rattle.dirac_bits.specs.Syntax.{Syntax, done, refuse, block_then, uint, align, here, number_field, between, ◌>>=◌}
use Rattle.dirac_coeffs.specs.declared.layout.BandLayout.{BandLayout}
use Rattle.dirac_coeffs.specs.declared.layout.CodedBand.{CodedBand}
use Rattle.dirac_coeffs.specs.BandRead.{Content, band_read}
use Rattle.dirac_coeffs.specs.Carried.{AreSmall}
use Rattle.dirac_coeffs.specs.Indices.{all_equal}

-- the band's table with these values
abbrev pub band_table : BandLayout → List ℤ → Table
band_table layout xs = record { width = layout.width; height = layout.height; values = xs }

-- the band of which nothing is coded
abbrev pub zero_band : BandLayout → CodedBand
zero_band layout = record {
  index = 0;
  indices = all_equal layout 0;
  table = band_table layout (replicate (layout.width * layout.height) (pos 0));
}

-- the band that a block reads to, or the refusal of its block
abbrev pub band_from : BandLayout → ℕ → ℕ → Result Content Cause → Syntax CodedBand
band_from layout index at (Ok c) =
    done (record { index = index; indices = c.indices; table = band_table layout c.values })
band_from layout index at (Err cause) = refuse at cause

-- a band with a block of this length
unfoldable pub coded_band : BandLayout → List ℤ → ℕ → Syntax CodedBand
coded_band layout parent len = do
  index ← number_field QuantIndex (between 0 LARGEST_INDEX)
  gap ← align
  at ← here
  block_then len (λ block. band_from layout index at (band_read layout parent index block))

-- a band
unfoldable pub band : BandLayout → List ℤ → Syntax CodedBand
band layout parent = do
  gap ← align
  len ← uint
  if len == 0 then done (zero_band layout) else coded_band layout parent len

-- the values of the parent, none where there is no parent
abbrev pub values_of_parent : Option (Bor Table) → List ℤ
values_of_parent None = []
values_of_parent (Some t) = t.now.values

-- the parent has half the band's sizes
abbrev pub IsParentOf : BandLayout → Bor Table → Type 0
IsParentOf layout t = (layout.width ≡ 2 * t.now.width) × (layout.height ≡ 2 * t.now.height)

-- what a coded band is: an index of a quantiser, one for each codeblock, which in mode 0 are all the band's, and a
-- table of the band's sizes whose values can be spelt
pub record IsCodedBand (layout : BandLayout) (b : CodedBand) : Type 0 where
  pub index : IsIndex b.index
  pub width : b.table.width ≡ layout.width
  pub height : b.table.height ≡ layout.height
  pub len : length b.table.values ≡ layout.width * layout.height
  pub small : AreSmall b.table.values
  pub count : length b.indices ≡ layout.across * layout.down
  pub each : All IsIndex b.indices
  pub plain : layout.mode ≡ 0 → b.indices ≡ all_equal layout b.index
