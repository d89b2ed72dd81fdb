-- The laws of this crate.
use Rattle.std.specs.Prelude.{◌≡◌, ◌≢◌, ◌⊎◌, ◌↔◌, ℕ, List, []}
use Rattle.dirac_common.specs.declared.faults.Cause.{Cause}
use Rattle.dirac_common.specs.declared.faults.Cause.TheVariants.{CodeWord}
use Rattle.dirac_arith.specs.Carried.{Carries}
use Rattle.dirac_arith.specs.Coded.{Breaks}
use Rattle.dirac_arith.specs.Front.{front}
use Rattle.dirac_arith.specs.Interval.{Decision}
use Rattle.dirac_blocks.specs.declared.parts.ListKind.{ListKind}
use Rattle.dirac_blocks.specs.Carried.{CarriesPart, CarriesSplits, ReadsTo, IsRefused}
use Rattle.dirac_blocks.specs.Decisions.{unit_decisions}
use Rattle.dirac_blocks.specs.Grammar.{TableStep, splits_step, units_step}
use Rattle.dirac_blocks.specs.Parts.{part_at}
use Rattle.dirac_blocks.specs.Reached.{AllGrey}
use Rattle.dirac_block_table.specs.Tables.{BlockTable, IsBlockTable}

-- what a list tells of each unit is read from the block that carries it
abbrev pub CarriedIsRead : Type 0
CarriedIsRead =
    (part : ListKind) (former t : BlockTable) (block : List ℕ) →
    IsBlockTable former →
    CarriesPart part former block t →
    ReadsTo (units_step part) former block t

-- and what is read is carried
abbrev pub ReadIsCarried : Type 0
ReadIsCarried =
    (part : ListKind) (former t : BlockTable) (block : List ℕ) →
    IsBlockTable former →
    ReadsTo (units_step part) former block t →
    CarriesPart part former block t

-- splits are read from the block that carries them
abbrev pub CarriedSplitsAreRead : Type 0
CarriedSplitsAreRead =
    (former t : BlockTable) (block : List ℕ) →
    IsBlockTable former →
    CarriesSplits former block t →
    ReadsTo splits_step former block t

-- and splits that are read into a table without blocks are carried
abbrev pub ReadSplitsAreCarried : Type 0
ReadSplitsAreCarried =
    (former t : BlockTable) (block : List ℕ) →
    IsBlockTable former →
    AllGrey former.blocks →
    ReadsTo splits_step former block t →
    CarriesSplits former block t

-- a list is refused, but for a block that begins with sixteen ones, exactly where the block breaks off
abbrev pub RefusedIsBroken : Type 0
RefusedIsBroken =
    (step : TableStep) (former : BlockTable) (block : List ℕ) (cause : Cause) →
    front block 16 ≢ 65535 →
    IsRefused step former block cause ↔ ((ds : List Decision) × Breaks (step former) cause ds × Carries block ds)

-- a block that begins with sixteen ones is refused for them exactly where its list needs a decision
abbrev pub OnesInListAreRefused : Type 0
OnesInListAreRefused =
    (part : ListKind) (former : BlockTable) (block : List ℕ) →
    IsBlockTable former →
    front block 16 ≡ 65535 →
    IsRefused (units_step part) former block CodeWord
    ⊎ ((t : BlockTable) × ReadsTo (units_step part) former block t × (unit_decisions t (part_at part t) ≡ []))

-- and splits always need one
abbrev pub OnesRefuseSplits : Type 0
OnesRefuseSplits =
    (former : BlockTable) (block : List ℕ) → IsBlockTable former → front block 16 ≡ 65535
    → IsRefused splits_step former block CodeWord
