-- A block table in a payload (motion data, Dirac specification, section 12): for each of its lists a length and an
-- arithmetic block, which is read over the table that the lists before gave. Superblocks are read by rows, the units
-- of one by rows, and what a unit has holds for all its blocks.
use Rattle.std.specs.Prelude.{ℕ, ℤ, pos, negsuc, ◌+◌, ◌+ℤ◌, ◌*◌, ◌%◌, ◌^◌, ◌==◌, int_le, if◌then◌else◌, Bool}
use Rattle.std.specs.Prelude.{true, false, not, ◌||◌, ◌&&◌, List, Option, Some, None, Result, Ok, Err}
use Rattle.dirac_arith.specs.declared.contexts.TheConstants.{DC_DIGITS, DC_FOLLOW, DC_SIGN, REFERENCE_1, REFERENCE_2}
use Rattle.dirac_arith.specs.declared.contexts.TheConstants.{SPLIT_DIGITS, SPLIT_FOLLOW, VECTOR_DIGITS, VECTOR_FOLLOW}
use Rattle.dirac_arith.specs.declared.contexts.TheConstants.{VECTOR_SIGN}
use Rattle.dirac_common.specs.declared.faults.Cause.{Cause}
use Rattle.dirac_common.specs.declared.faults.Cause.TheVariants.{VectorRange, DcRange}
use Rattle.dirac_arith.specs.Coded.{Coded, decide, number, signed, and_then, repeated}
use Rattle.dirac_arith.specs.Coded as coded
use Rattle.dirac_arith.specs.Deciding.{begin}
use Rattle.dirac_arith.specs.Reading.{Reading}
use Rattle.dirac_bits.specs.Syntax.{Syntax, done, refuse, block_then, uint, align, here, ◌>>=◌}
use Rattle.dirac_vectors.specs.Predictions.{mode_of, vector_of, dc_of}
use Rattle.dirac_block_table.specs.declared.block.Block.{Block}
pub use Rattle.dirac_block_table.specs.Filling.{empty_table, with_split, row_filled, rows_filled, with_unit}
use Rattle.dirac_block_table.specs.declared.reference.Reference.{Reference}
use Rattle.dirac_block_table.specs.declared.reference.Reference.TheVariants as references
use Rattle.dirac_common.specs.declared.formats.Component.{Component}
use Rattle.dirac_common.specs.declared.formats.Component.TheVariants as components
use Rattle.dirac_blocks.specs.declared.parts.Axis.{Axis}
use Rattle.dirac_blocks.specs.declared.parts.Axis.TheVariants as axes
use Rattle.dirac_blocks.specs.declared.parts.ListKind.{ListKind}
use Rattle.dirac_blocks.specs.declared.parts.ListKind.TheVariants as parts
use Rattle.dirac_block_table.specs.Tables.{BlockTable, grey, split_at, block_at, unit_size}
use Rattle.dirac_blocks.specs.Decisions.{predicted, predicted_split, differ, ref1_at, ref2_at}
use Rattle.dirac_blocks.specs.Parts.{vector_at, dc_at}

-- what is read next: it leads from one table to another, or is refused
abbrev pub TableStep : Type 0
TableStep = BlockTable → Coded BlockTable

-- the split of superblock sx of row sy: the sum modulo 3 of a number and the prediction
unfoldable pub split_step : ℕ → ℕ → TableStep
split_step sy sx t =
    number SPLIT_FOLLOW SPLIT_DIGITS (λ n. coded.done (with_split t sx sy ((n + predicted_split t sx sy) % 3)))

-- the splits of all superblocks
abbrev pub splits_step : TableStep
splits_step t = repeated (λ sy. repeated (split_step sy) t.across) t.down t

-- a block that uses these references, all of whose values are 0
abbrev pub block_using : Bool → Bool → Block
block_using first second = record grey { ref1 = first; ref2 = second }

-- whether a unit uses reference 2, where there is one
abbrev pub second_use : BlockTable → ℕ → ℕ → Coded Bool
second_use t i j =
    if t.refs == 2 then decide REFERENCE_2 (λ bit. coded.done (differ bit (predicted mode_of (ref2_at t) i j)))
    else coded.done false

-- which references a unit uses, each bit against its prediction
abbrev pub mode_coded : BlockTable → ℕ → ℕ → Coded Block
mode_coded t i j =
    decide REFERENCE_1 (λ first. and_then (second_use t i j)
    (λ second. coded.done (block_using (differ first (predicted mode_of (ref1_at t) i j)) second)))

-- whether a value has 16 bits
abbrev pub has_16_bits : ℤ → Bool
has_16_bits v = int_le (negsuc 32767) v && int_le v (pos 32767)

-- a value that was predicted, from the number that it differs by; refused where it hasn't 16 bits
abbrev pub value_from : Cause → ℤ → ℤ → Coded ℤ
value_from cause prediction n =
    if has_16_bits (n +ℤ prediction) then coded.done (n +ℤ prediction) else coded.refuse cause

-- a value that is predicted
abbrev pub value_coded : Cause → List ℕ → ℕ → ℕ → ℤ → Coded ℤ
value_coded cause follow bits sign prediction = signed follow bits sign (value_from cause prediction)

-- a component of a vector that is predicted
abbrev pub component_coded : ℤ → Coded ℤ
component_coded prediction = value_coded VectorRange VECTOR_FOLLOW VECTOR_DIGITS VECTOR_SIGN prediction

-- whether a block uses a reference
abbrev pub uses : Reference → Block → Bool
uses references.First b = b.ref1
uses references.Second b = b.ref2

-- whether a block uses none
abbrev pub is_dc : Block → Bool
is_dc b = not (b.ref1 || b.ref2)

-- the block with this component across of a vector
abbrev pub with_across : Reference → Block → ℤ → Block
with_across references.First b v = record b { v1 = record { x = v; y = b.v1.y } }
with_across references.Second b v = record b { v2 = record { x = v; y = b.v2.y } }

-- the same of the component down
abbrev pub with_down : Reference → Block → ℤ → Block
with_down references.First b v = record b { v1 = record { x = b.v1.x; y = v } }
with_down references.Second b v = record b { v2 = record { x = b.v2.x; y = v } }

-- the same of the component along an axis
abbrev pub with_component : Axis → Reference → Block → ℤ → Block
with_component axes.Across = with_across
with_component axes.Down = with_down

-- the block with a DC value
abbrev pub with_dc : Component → Block → ℤ → Block
with_dc components.Y b v = record b { dc_y = v }
with_dc components.U b v = record b { dc_u = v }
with_dc components.V b v = record b { dc_v = v }

-- a block with a value that is coded, where it has it
abbrev pub coded_into : Bool → Block → (Block → ℤ → Block) → Coded ℤ → Coded Block
coded_into true b put value = and_then value (λ v. coded.done (put b v))
coded_into false b put value = coded.done b

-- the block of a unit, with what this list tells of it; block i of row j is its first
abbrev pub unit_coded : ListKind → BlockTable → ℕ → ℕ → Coded Block
unit_coded parts.Modes t i j = mode_coded t i j
unit_coded (parts.Across k) t i j =
    coded_into (uses k (block_at t i j)) (block_at t i j) (with_across k)
    (component_coded (predicted vector_of (vector_at k t) i j).x)
unit_coded (parts.Down k) t i j =
    coded_into (uses k (block_at t i j)) (block_at t i j) (with_down k)
    (component_coded (predicted vector_of (vector_at k t) i j).y)
unit_coded (parts.Dc c) t i j =
    coded_into (is_dc (block_at t i j)) (block_at t i j) (with_dc c)
    (value_coded DcRange DC_FOLLOW DC_DIGITS DC_SIGN (predicted dc_of (dc_at c t) i j))

-- a unit
unfoldable pub unit_read_step : ListKind → ℕ → ℕ → ℕ → TableStep
unit_read_step part size i j t = and_then (unit_coded part t i j) (λ b. coded.done (with_unit t size i j b))

-- n units of a row, from block i of row j on
abbrev pub unit_row_step : ListKind → ℕ → ℕ → ℕ → ℕ → TableStep
unit_row_step part size i j n t = repeated (λ u. unit_read_step part size (i + u * size) j) n t

-- n rows of that many units each
abbrev pub unit_rows_step : ListKind → ℕ → ℕ → ℕ → ℕ → ℕ → TableStep
unit_rows_step part size across i j n t = repeated (λ v. unit_row_step part size i (j + v * size) across) n t

-- superblock sx of row sy
unfoldable pub superblock_step : ListKind → ℕ → ℕ → TableStep
superblock_step part sy sx t =
    let s = split_at t sx sy in unit_rows_step part (unit_size s) (2 ^ s) (4 * sx) (4 * sy) (2 ^ s) t

-- all superblocks
abbrev pub units_step : ListKind → TableStep
units_step part t = repeated (λ sy. repeated (superblock_step part sy) t.across) t.down t

-- what a list tells of superblock sx of row sy: its split, or what it tells of each unit
abbrev pub list_step : Option ListKind → ℕ → ℕ → TableStep
list_step None = split_step
list_step (Some part) = superblock_step part

-- all that one list tells: the splits, or what it tells of each unit
abbrev pub step_of : Option ListKind → TableStep
step_of None = splits_step
step_of (Some part) = units_step part

-- the table that a block reads to, or the refusal of the block
abbrev pub table_from : ℕ → Result (BlockTable × Reading) Cause → Syntax BlockTable
table_from at (Ok x) = done x.0
table_from at (Err cause) = refuse at cause

-- a list, read over this table
unfoldable pub list_over : TableStep → BlockTable → Syntax BlockTable
list_over step t = do
  len ← uint
  gap ← align
  at ← here
  block_then len (λ block. table_from at (coded.read_coded (step t) (begin block)))

-- both components of the vectors of a reference
unfoldable pub vectors_listed : Reference → BlockTable → Syntax BlockTable
vectors_listed k t = do
  t ← list_over (units_step (parts.Across k)) t
  list_over (units_step (parts.Down k)) t

-- the vectors of reference 2, where there is one
unfoldable pub second_listed : BlockTable → Syntax BlockTable
second_listed t = if t.refs == 2 then vectors_listed references.Second t else done t

-- the DC values
unfoldable pub dcs_listed : BlockTable → Syntax BlockTable
dcs_listed t = do
  t ← list_over (units_step (parts.Dc components.Y)) t
  t ← list_over (units_step (parts.Dc components.U)) t
  list_over (units_step (parts.Dc components.V)) t

-- the vectors and the DC values
unfoldable pub values_listed : BlockTable → Syntax BlockTable
values_listed t = do
  t ← vectors_listed references.First t
  t ← second_listed t
  dcs_listed t

-- all lists, in the order of their blocks
unfoldable pub lists_of : BlockTable → Syntax BlockTable
lists_of t = do
  t ← list_over splits_step t
  t ← list_over (units_step parts.Modes) t
  values_listed t

-- a block table
unfoldable pub blocks : ℕ → ℕ → ℕ → Syntax BlockTable
blocks across down refs = do
  gap ← align
  lists_of (empty_table across down refs)
