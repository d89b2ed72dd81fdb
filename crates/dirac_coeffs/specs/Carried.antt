-- What a block carries: a band, or decisions that lead to where it breaks off.
use Rattle.std.specs.Prelude.{◌≡◌, ℕ, ℤ, pos, ◌+◌, ◌-◌, ◌*◌, ◌+ℤ◌, ◌^◌, ◌<◌, true, List, length, All, unsigned_abs}
use Rattle.dirac_common.specs.declared.faults.Cause.{Cause}
use Rattle.dirac_common.specs.declared.faults.Cause.TheVariants.{NumberTooLong, QuantIndex}
use Rattle.dirac_common.specs.Limits.{IsIndex}
use Rattle.dirac_arith.specs.Carried.{Carries}
use Rattle.dirac_arith.specs.Coded.{Breaks}
use Rattle.dirac_arith.specs.Interval.{Decision}
use Rattle.dirac_bands.specs.Geometry.{edge_of}
use Rattle.dirac_coeffs.specs.declared.layout.BandLayout.{BandLayout}
use Rattle.dirac_coeffs.specs.BandRead.{band_coded}
use Rattle.dirac_coeffs.specs.Contexts.{band_value}
use Rattle.dirac_coeffs.specs.Decisions.{Mark, Marks, band_decisions}
use Rattle.dirac_coeffs.specs.Indices.{place_of, index_at, index_before}
use Rattle.dirac_coeffs.specs.Layouts.{codeblock_extent, is_flagged}

-- the magnitudes that a number can spell
abbrev pub AreSmall : List ℤ → Type 0
AreSmall xs = All (λ v. unsigned_abs v < 2 ^ 39 - 1) xs

-- the values of codeblock cx of row cy are zeros
abbrev pub IsZeroBlock : BandLayout → List ℤ → ℕ → ℕ → Type 0
IsZeroBlock layout xs cy cx =
    (i j : ℕ) →
    i < codeblock_extent layout.width layout.across cx →
    j < codeblock_extent layout.height layout.down cy →
    band_value layout.width xs (edge_of layout.width layout.across cx + i) (edge_of layout.height layout.down cy + j)
    ≡ pos 0

-- a codeblock whose flag is true has zeros alone
abbrev pub SkippedIsZero : BandLayout → List ℤ → ℕ → ℕ → Mark → Type 0
SkippedIsZero layout xs cy cx mark = is_flagged layout ≡ true → mark.skipped ≡ true → IsZeroBlock layout xs cy cx

-- the index of codeblock cx of row cy is that of the codeblock before it plus the offset, which is 0 where the
-- codeblock is skipped, and in mode 0
pub record IsIndexed (layout : BandLayout) (index : ℕ) (indices : List ℕ) (cy cx : ℕ) (mark : Mark) : Type 0 where
  pub sum : pos (index_at indices (place_of layout cy cx))
      ≡ pos (index_before index indices (place_of layout cy cx)) +ℤ mark.offset
  pub skipped : is_flagged layout ≡ true → mark.skipped ≡ true → mark.offset ≡ pos 0
  pub plain : layout.mode ≡ 0 → mark.offset ≡ pos 0

-- values of a band, and an index for each codeblock, that can be spelt
pub record AreLawful (layout : BandLayout) (index : ℕ) (xs : List ℤ) (indices : List ℕ) : Type 0 where
  pub len : length xs ≡ layout.width * layout.height
  pub small : AreSmall xs
  pub count : length indices ≡ layout.across * layout.down
  pub own : IsIndex index
  pub each : All IsIndex indices

-- the block carries the decisions of this finished band
pub record CarriesBand (layout : BandLayout) (parent : List ℤ) (index : ℕ) (block : List ℕ) (xs : List ℤ)
    (indices : List ℕ) (marks : Marks) : Type 0
  where
    pub lawful : AreLawful layout index xs indices
    pub zeros : (cy cx : ℕ) → cy < layout.down → cx < layout.across → SkippedIsZero layout xs cy cx (marks cy cx)
    pub indexed : (cy cx : ℕ) → cy < layout.down → cx < layout.across
        → IsIndexed layout index indices cy cx (marks cy cx)
    pub carried : Carries block (band_decisions layout parent xs marks)

-- the block carries decisions that lead to where the band breaks off for this cause
abbrev pub BandBreaksOff : BandLayout → List ℤ → ℕ → List ℕ → Cause → Type 0
BandBreaksOff layout parent index block cause =
    (ds : List Decision) × Breaks (band_coded layout parent index) cause ds × Carries block ds

-- the block carries the decisions up to a number that is too long
abbrev pub CarriesLong : BandLayout → List ℤ → ℕ → List ℕ → Type 0
CarriesLong layout parent index block = BandBreaksOff layout parent index block NumberTooLong

-- the block carries the decisions up to an offset that leads to no quantiser's index
abbrev pub CarriesNoIndex : BandLayout → List ℤ → ℕ → List ℕ → Type 0
CarriesNoIndex layout parent index block = BandBreaksOff layout parent index block QuantIndex
