-- The decisions that a block table is coded by, told from the finished table: nine lists with two references, seven
-- with one. Predictions are read off the values of the whole, and nothing is said of the order in which a reader fills
-- them in.
use Rattle.std.specs.Prelude.{◌≡◌, ℕ, zero, suc, ℤ, ◌+◌, ◌-◌, ◌-ℤ◌, ◌*◌, ◌%◌, ◌^◌, ◌<◌, ◌==◌, Bool, true, false, not}
use Rattle.std.specs.Prelude.{if◌then◌else◌, List, [], ◌∷◌, ◌++◌, Option, Some, None, option_map}
use Rattle.dirac_arith.specs.declared.contexts.TheConstants.{DC_DIGITS, DC_FOLLOW, DC_SIGN, REFERENCE_1, REFERENCE_2}
use Rattle.dirac_arith.specs.declared.contexts.TheConstants.{SPLIT_DIGITS, SPLIT_FOLLOW, VECTOR_DIGITS, VECTOR_FOLLOW}
use Rattle.dirac_arith.specs.declared.contexts.TheConstants.{VECTOR_SIGN}
use Rattle.dirac_common.specs.declared.formats.Vector.{Vector}
use Rattle.dirac_arith.specs.Interval.{Decision}
use Rattle.dirac_arith.specs.Spelling.{spelling, signed_spelling}
use Rattle.dirac_vectors.specs.Predictions.{mode_of, vector_of, dc_of}
pub use Rattle.dirac_block_table.specs.Neighbours.{left_of, above_of, corner_of, predicted, counted, ref1_at, ref2_at}
pub use Rattle.dirac_block_table.specs.Neighbours.{v1_at, v2_at, is_dc_at, dc_y_at, dc_u_at, dc_v_at, predicted_split}
use Rattle.dirac_block_table.specs.Tables.{BlockTable, split_at, block_at, unit_size}

-- whether two bits differ
abbrev pub differ : Bool → Bool → Bool
differ true b = not b
differ false b = b

-- a number for each superblock, by its row and its place in that
abbrev pub Numbers : Type 0
Numbers = ℕ → ℕ → ℕ

-- numbers and predictions have the splits as their sums modulo 3
abbrev pub AreSplitNumbers : BlockTable → Numbers → Type 0
AreSplitNumbers t numbers =
    (sx sy : ℕ) → sx < t.across → sy < t.down → (numbers sy sx + predicted_split t sx sy) % 3 ≡ split_at t sx sy

-- the numbers 0 to 2 that do so
abbrev pub least_numbers : BlockTable → Numbers
least_numbers t sy sx = (split_at t sx sy + 3 - predicted_split t sx sy) % 3

-- the numbers of the first n superblocks of row sy
unfoldable pub split_row : Numbers → ℕ → ℕ → List Decision
split_row numbers sy zero = []
split_row numbers sy (suc n) = split_row numbers sy n ++ spelling SPLIT_FOLLOW SPLIT_DIGITS (numbers sy n)

-- the numbers of the first n rows of superblocks
unfoldable pub split_rows : ℕ → Numbers → ℕ → List Decision
split_rows across numbers zero = []
split_rows across numbers (suc n) = split_rows across numbers n ++ split_row numbers n across

-- what is coded for a unit, by its first block
abbrev pub UnitPart : Type 0
UnitPart = ℕ → ℕ → List Decision

-- n units of a row, from block i of row j on
unfoldable pub unit_row : UnitPart → ℕ → ℕ → ℕ → ℕ → List Decision
unit_row part size i j zero = []
unit_row part size i j (suc n) = unit_row part size i j n ++ part (i + n * size) j

-- n rows of that many units each, from block i of row j on
unfoldable pub unit_rows : UnitPart → ℕ → ℕ → ℕ → ℕ → ℕ → List Decision
unit_rows part size across i j zero = []
unit_rows part size across i j (suc n) = unit_rows part size across i j n ++ unit_row part size i (j + n * size) across

-- superblock sx of row sy
abbrev pub superblock_part : UnitPart → BlockTable → ℕ → ℕ → List Decision
superblock_part part t sx sy =
    let s = split_at t sx sy in unit_rows part (unit_size s) (2 ^ s) (4 * sx) (4 * sy) (2 ^ s)

-- the first n superblocks of row sy
unfoldable pub superblock_row : UnitPart → BlockTable → ℕ → ℕ → List Decision
superblock_row part t sy zero = []
superblock_row part t sy (suc n) = superblock_row part t sy n ++ superblock_part part t n sy

-- the first n rows of superblocks
unfoldable pub superblock_rows : UnitPart → BlockTable → ℕ → List Decision
superblock_rows part t zero = []
superblock_rows part t (suc n) = superblock_rows part t n ++ superblock_row part t n t.across

-- which references a unit uses, each bit against its prediction
abbrev pub mode_part : BlockTable → UnitPart
mode_part t i j =
    (REFERENCE_1, differ (block_at t i j).ref1 (predicted mode_of (ref1_at t) i j))
    ∷ (if t.refs == 2 then (REFERENCE_2, differ (block_at t i j).ref2 (predicted mode_of (ref2_at t) i j)) ∷ [] else [])

-- a value, where the unit has it, less its prediction
abbrev pub less_prediction : List ℕ → ℕ → ℕ → ℤ → Option ℤ → List Decision
less_prediction follow bits sign prediction None = []
less_prediction follow bits sign prediction (Some v) = signed_spelling follow bits sign (v -ℤ prediction)

-- a component of a unit's vector
abbrev pub vector_part : (ℕ → ℕ → Option Vector) → (Vector → ℤ) → UnitPart
vector_part at component i j =
    less_prediction VECTOR_FOLLOW VECTOR_DIGITS VECTOR_SIGN (component (predicted vector_of at i j))
    (option_map component (at i j))

-- a DC value of a unit
abbrev pub dc_part : (ℕ → ℕ → Option ℤ) → UnitPart
dc_part at i j = less_prediction DC_FOLLOW DC_DIGITS DC_SIGN (predicted dc_of at i j) (at i j)

-- a list for the whole table, units by superblock
abbrev pub unit_decisions : BlockTable → UnitPart → List Decision
unit_decisions t part = superblock_rows part t t.down

-- the lists of the vectors of reference 2, where there is one
abbrev pub second_lists : BlockTable → List (List Decision)
second_lists t =
    if t.refs == 2
    then unit_decisions t (vector_part (v2_at t) (λ v. v.x)) ∷ unit_decisions t (vector_part (v2_at t) (λ v. v.y)) ∷ []
    else []

-- all lists, in the order of their blocks: splits, modes, vectors across and down, DC values of Y, U and V
abbrev pub block_decisions : BlockTable → Numbers → List (List Decision)
block_decisions t numbers =
    (split_rows t.across numbers t.down
    ∷ unit_decisions t (mode_part t)
    ∷ unit_decisions t (vector_part (v1_at t) (λ v. v.x))
    ∷ unit_decisions t (vector_part (v1_at t) (λ v. v.y))
    ∷ [])
    ++ (second_lists t
    ++ (unit_decisions t (dc_part (dc_y_at t))
    ∷ unit_decisions t (dc_part (dc_u_at t))
    ∷ unit_decisions t (dc_part (dc_v_at t))
    ∷ []))
