-- What the blocks of a block table carry: the lists of a finished table.
use Rattle.std.specs.Prelude.{◌≡◌, ℕ, ◌-◌, ◌*◌, ◌^◌, ◌<◌, List, Ok, Err}
use Rattle.dirac_common.specs.declared.faults.Cause.{Cause}
use Rattle.dirac_arith.specs.Carried.{Carries}
use Rattle.dirac_arith.specs.Coded.{read_coded}
use Rattle.dirac_arith.specs.Deciding.{begin}
use Rattle.dirac_arith.specs.Reading.{Reading}
use Rattle.dirac_block_table.specs.declared.block.Block.{Block}
use Rattle.dirac_common.specs.declared.formats.Component.TheVariants as components
use Rattle.dirac_blocks.specs.declared.parts.ListKind.{ListKind}
use Rattle.dirac_blocks.specs.declared.parts.ListKind.TheVariants as parts
use Rattle.dirac_block_table.specs.declared.reference.Reference.TheVariants as references
use Rattle.dirac_blocks.specs.Decisions.{Numbers, AreSplitNumbers, split_rows, unit_decisions}
use Rattle.dirac_blocks.specs.Grammar.{TableStep, block_using, with_across, with_down, with_dc}
use Rattle.dirac_blocks.specs.Parts.{part_at}
use Rattle.dirac_blocks.specs.Reached.{SameBlocks, SameShape}
use Rattle.dirac_block_table.specs.Tables.{BlockTable, IsBlockTable, block_at}

-- the first block, with what a list tells of the second
abbrev pub with_list_part : ListKind → Block → Block → Block
with_list_part parts.Modes b c = block_using c.ref1 c.ref2
with_list_part (parts.Across references.First) b c = with_across references.First b c.v1.x
with_list_part (parts.Across references.Second) b c = with_across references.Second b c.v2.x
with_list_part (parts.Down references.First) b c = with_down references.First b c.v1.y
with_list_part (parts.Down references.Second) b c = with_down references.Second b c.v2.y
with_list_part (parts.Dc components.Y) b c = with_dc components.Y b c.dc_y
with_list_part (parts.Dc components.U) b c = with_dc components.U b c.dc_u
with_list_part (parts.Dc components.V) b c = with_dc components.V b c.dc_v

-- the second table is the first one but for what this list tells
pub record IsWithPart (part : ListKind) (t u : BlockTable) : Type 0 where
  pub shape : SameShape t u
  pub blocks : (i j : ℕ) → i < 4 * t.across → j < 4 * t.down → with_list_part part (block_at t i j) (block_at u i j)
      ≡ block_at u i j

-- the block carries what this list tells of a lawful table, which but for that is the former one
pub record CarriesPart (part : ListKind) (former : BlockTable) (block : List ℕ) (t : BlockTable) : Type 0 where
  pub lawful : IsBlockTable t
  pub rest : IsWithPart part former t
  pub carried : Carries block (unit_decisions t (part_at part t))

-- the block carries the splits of a lawful table, which but for them is the former one
pub record CarriesSplits (former : BlockTable) (block : List ℕ) (t : BlockTable) : Type 0 where
  pub lawful : IsBlockTable t
  pub rest : SameBlocks former t
  pub numbers : Numbers
  pub are : AreSplitNumbers t numbers
  pub small : (sx sy : ℕ) → sx < t.across → sy < t.down → numbers sy sx < 2 ^ 39 - 1
  pub carried : Carries block (split_rows t.across numbers t.down)

-- a block is read to this table by these steps
abbrev pub ReadsTo : TableStep → BlockTable → List ℕ → BlockTable → Type 0
ReadsTo step former block t = (behind : Reading) × (read_coded (step former) (begin block) ≡ Ok (t, behind))

-- these steps are refused
abbrev pub IsRefused : TableStep → BlockTable → List ℕ → Cause → Type 0
IsRefused step former block cause = read_coded (step former) (begin block) ≡ Err cause
