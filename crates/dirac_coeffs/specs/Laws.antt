-- The laws of this crate.
use Rattle.std.specs.Prelude.{◌≡◌, ◌↔◌, ◌+◌, ◌^◌, ◌<◌, ℕ, ℤ, List, length, Ok, Err}
use Rattle.dirac_common.specs.declared.faults.Cause.TheVariants.{CodeWord, NumberTooLong, QuantIndex}
use Rattle.dirac_common.specs.Limits.{IsIndex}
use Rattle.dirac_arith.specs.Front.{front}
use Rattle.dirac_coeffs.specs.declared.layout.BandLayout.{BandLayout}
use Rattle.dirac_coeffs.specs.BandRead.{band_read, band_content}
use Rattle.dirac_coeffs.specs.Carried.{CarriesBand, CarriesLong, CarriesNoIndex}
use Rattle.dirac_coeffs.specs.Decisions.{Marks}
use Rattle.dirac_coeffs.specs.Indices.{all_equal}
use Rattle.dirac_coeffs.specs.Layouts.{IsBandLayout}
use Rattle.dirac_coeffs.specs.Written.{block_of}

-- a block carries at most one band
abbrev pub OneBandIsCarried : Type 0
OneBandIsCarried =
    (layout : BandLayout) (parent : List ℤ) (index : ℕ) (block : List ℕ) (xs ys : List ℤ) (is js : List ℕ)
    (ms ms' : Marks) →
    IsBandLayout layout →
    CarriesBand layout parent index block xs is ms →
    CarriesBand layout parent index block ys js ms' →
    (xs ≡ ys) × (is ≡ js)

-- a block carries no band beside a number that is too long
abbrev pub NoBandBesideLong : Type 0
NoBandBesideLong =
    (layout : BandLayout) (parent : List ℤ) (index : ℕ) (block : List ℕ) (xs : List ℤ) (is : List ℕ)
    (ms : Marks) →
    IsBandLayout layout →
    CarriesBand layout parent index block xs is ms →
    CarriesLong layout parent index block →
    ⊥

-- a block carries no band beside an offset that leads to no index
abbrev pub NoBandBesideNoIndex : Type 0
NoBandBesideNoIndex =
    (layout : BandLayout) (parent : List ℤ) (index : ℕ) (block : List ℕ) (xs : List ℤ) (is : List ℕ)
    (ms : Marks) →
    IsBandLayout layout →
    CarriesBand layout parent index block xs is ms →
    CarriesNoIndex layout parent index block →
    ⊥

-- a block does not carry both a number that is too long and an offset that leads to no index
abbrev pub NotLongAndNoIndex : Type 0
NotLongAndNoIndex =
    (layout : BandLayout) (parent : List ℤ) (index : ℕ) (block : List ℕ) →
    IsBandLayout layout →
    CarriesLong layout parent index block →
    CarriesNoIndex layout parent index block →
    ⊥

-- a block of ones carries no band, no number that is too long and no offset that leads to no index
abbrev pub OnesCarryNothing : Type 0
OnesCarryNothing =
    (layout : BandLayout) (parent : List ℤ) (index : ℕ) (block : List ℕ) →
    IsBandLayout layout →
    front block 16 ≡ 65535 →
    ((xs : List ℤ) (is : List ℕ) (ms : Marks) → CarriesBand layout parent index block xs is ms → ⊥)
    × (CarriesLong layout parent index block → ⊥)
    × (CarriesNoIndex layout parent index block → ⊥)

-- a block reads to a band exactly where it carries it
abbrev pub BandIsRead : Type 0
BandIsRead =
    (layout : BandLayout) (parent : List ℤ) (index : ℕ) (block : List ℕ) (xs : List ℤ) (is : List ℕ) →
    IsBandLayout layout →
    IsIndex index →
    (band_read layout parent index block ≡ Ok (band_content xs is))
    ↔ ((ms : Marks) × CarriesBand layout parent index block xs is ms)

-- in mode 0 each codeblock of a band that a block reads to has the band's index
abbrev pub PlainIsEqual : Type 0
PlainIsEqual =
    (layout : BandLayout) (parent : List ℤ) (index : ℕ) (block : List ℕ) (xs : List ℤ) (is : List ℕ) →
    IsBandLayout layout →
    IsIndex index →
    layout.mode ≡ 0 →
    band_read layout parent index block ≡ Ok (band_content xs is) →
    is ≡ all_equal layout index

-- a block is refused for a number that is too long exactly where it carries the decisions up to one
abbrev pub LongIsRefused : Type 0
LongIsRefused =
    (layout : BandLayout) (parent : List ℤ) (index : ℕ) (block : List ℕ) →
    IsBandLayout layout →
    IsIndex index →
    (band_read layout parent index block ≡ Err NumberTooLong) ↔ CarriesLong layout parent index block

-- a block is refused for its index exactly where it carries the decisions up to an offset that leads to none
abbrev pub NoIndexIsRefused : Type 0
NoIndexIsRefused =
    (layout : BandLayout) (parent : List ℤ) (index : ℕ) (block : List ℕ) →
    IsBandLayout layout →
    IsIndex index →
    (band_read layout parent index block ≡ Err QuantIndex) ↔ CarriesNoIndex layout parent index block

-- a block is refused for its first bits exactly where sixteen of them are ones
abbrev pub OnesInBandAreRefused : Type 0
OnesInBandAreRefused =
    (layout : BandLayout) (parent : List ℤ) (index : ℕ) (block : List ℕ) →
    (band_read layout parent index block ≡ Err CodeWord) ↔ (front block 16 ≡ 65535)

-- the block of a subband is short: its length can be spelt
abbrev pub BlocksAreShort : Type 0
BlocksAreShort =
    (layout : BandLayout) (parent : List ℤ) (index : ℕ) (xs : List ℤ) (is : List ℕ) →
    IsBandLayout layout →
    length (block_of layout parent index xs is) + 1 < 2 ^ 39
