-- A subband in a payload, in two steps: where its block stands, which no other band tells, and what it reads to there.
use Rattle.std.specs.Prelude.{◌≡◌, ℕ, ℤ, ◌==◌, if◌then◌else◌, List, Option, Some, None, Result, Ok, Err}
use Rattle.dirac_common.specs.Chain.{◌>>=◌ as ◌>>◌}
use Rattle.dirac_common.specs.declared.limits.TheConstants.{LARGEST_INDEX}
use Rattle.dirac_common.specs.declared.faults.Cause.{Cause}
use Rattle.dirac_common.specs.declared.faults.Cause.TheVariants.{QuantIndex}
use Rattle.dirac_common.specs.declared.faults.Refusal.{Refusal}
use Rattle.dirac_bits.specs.Cursor.{Cursor}
use Rattle.dirac_bits.specs.Syntax.{Syntax, done, block_then, uint, align, here, number_field, between, ◌>>=◌, read}
use Rattle.dirac_coeffs.specs.declared.layout.BandLayout.{BandLayout}
use Rattle.dirac_coeffs.specs.declared.layout.CodedBand.{CodedBand}
use Rattle.dirac_coeffs.specs.BandRead.{Content, band_read}
use Rattle.dirac_coeffs.specs.Grammar.{band, band_table, zero_band}

-- the block of a band: its quantiser index, the place of its first byte, its bytes
pub record Found : Type 0 where
  pub index : ℕ
  pub at : ℕ
  pub block : List ℕ

-- where the block of this length stands
unfoldable pub coded_site : ℕ → Syntax Found
coded_site len = do
  index ← number_field QuantIndex (between 0 LARGEST_INDEX)
  gap ← align
  at ← here
  block_then len (λ block. done (record { index = index; at = at; block = block }))

-- where the block of a band stands, none where nothing is coded
unfoldable pub site : Syntax (Option Found)
site = do
  gap ← align
  len ← uint
  if len == 0 then done None else (coded_site len >>= λ s. done (Some s))

-- the band of what its block reads to, or the refusal of its block
abbrev pub band_with_content : BandLayout → ℕ → ℕ → Result Content Cause → Result CodedBand Refusal
band_with_content layout index at (Ok c) =
    Ok (record { index = index; indices = c.indices; table = band_table layout c.values })
band_with_content layout index at (Err cause) = Err (record { at = at; cause = cause })

-- the band whose block was found
abbrev pub coded_at : BandLayout → List ℤ → Found → Result CodedBand Refusal
coded_at layout parent s = band_with_content layout s.index s.at (band_read layout parent s.index s.block)

-- the band at this place
abbrev pub band_at : BandLayout → List ℤ → Option Found → Result CodedBand Refusal
band_at layout parent None = Ok (zero_band layout)
band_at layout parent (Some s) = coded_at layout parent s

-- with the place behind it
abbrev pub with_place_behind : Cursor → Result CodedBand Refusal → Result (CodedBand × Cursor) Refusal
with_place_behind c (Ok b) = Ok (b, c)
with_place_behind c (Err refusal) = Err refusal

-- a band is read as its block is found, and then read there
abbrev pub BandsAreReadAtSites : Type 0
BandsAreReadAtSites =
    (layout : BandLayout) (parent : List ℤ) (c : Cursor)
    → read (band layout parent) c ≡ (read site c >> λ x. with_place_behind x.1 (band_at layout parent x.0))
