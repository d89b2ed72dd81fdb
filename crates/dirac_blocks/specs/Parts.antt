-- The lists of a block table that tell something of each unit, by their parts.
use Rattle.std.specs.Prelude.{ℕ, ℤ, ◌==◌, Bool, true, if◌then◌else◌, List, [], ◌∷◌, Option, Some, None}
use Rattle.dirac_common.specs.declared.formats.Vector.{Vector}
use Rattle.dirac_arith.specs.Interval.{Decision}
use Rattle.dirac_blocks.specs.declared.parts.Axis.{Axis}
use Rattle.dirac_blocks.specs.declared.parts.Axis.TheVariants as axis
use Rattle.dirac_blocks.specs.declared.parts.ListKind.{ListKind}
use Rattle.dirac_blocks.specs.declared.parts.ListKind.TheVariants as part
use Rattle.dirac_block_table.specs.declared.reference.Reference.{Reference}
use Rattle.dirac_block_table.specs.declared.reference.Reference.TheVariants as reference
pub use Rattle.dirac_block_table.specs.Neighbours.{use_at, vector_at, dc_at}
use Rattle.dirac_block_table.specs.Tables.{BlockTable}
use Rattle.dirac_arith.specs.Spelling.{spelling}
use Rattle.dirac_arith.specs.declared.contexts.TheConstants.{SPLIT_DIGITS, SPLIT_FOLLOW}
use Rattle.dirac_blocks.specs.Decisions.{mode_part, vector_part, dc_part, least_numbers, split_rows}
use Rattle.dirac_blocks.specs.Decisions.{superblock_part, unit_decisions}

-- what a part tells of a unit
abbrev pub part_at : ListKind → BlockTable → ℕ → ℕ → List Decision
part_at part.Modes t i j = mode_part t i j
part_at (part.Across r) t i j = vector_part (vector_at r t) (λ v. v.x) i j
part_at (part.Down r) t i j = vector_part (vector_at r t) (λ v. v.y) i j
part_at (part.Dc c) t i j = dc_part (dc_at c t) i j

-- whether a list is there in a table of that many references
abbrev pub is_there : Option ListKind → ℕ → Bool
is_there None refs = true
is_there (Some part.Modes) refs = true
is_there (Some (part.Across reference.First)) refs = true
is_there (Some (part.Across reference.Second)) refs = refs == 2
is_there (Some (part.Down reference.First)) refs = true
is_there (Some (part.Down reference.Second)) refs = refs == 2
is_there (Some (part.Dc c)) refs = true

-- a list of a table: the splits, or what the list tells of each unit
abbrev pub list_decisions : Option ListKind → BlockTable → List Decision
list_decisions None t = split_rows t.across (least_numbers t) t.down
list_decisions (Some p) t = unit_decisions t (part_at p t)

-- what a list codes of superblock sx of row sy
abbrev pub list_part : Option ListKind → BlockTable → ℕ → ℕ → List Decision
list_part None t sx sy = spelling SPLIT_FOLLOW SPLIT_DIGITS (least_numbers t sy sx)
list_part (Some p) t sx sy = superblock_part (part_at p t) t sx sy

-- that list, where it is there
abbrev pub list_there : Option ListKind → BlockTable → List (List Decision)
list_there list t = if is_there list t.refs then list_decisions list t ∷ [] else []

-- a component of a vector
abbrev pub component_along : Axis → Vector → ℤ
component_along axis.Across v = v.x
component_along axis.Down v = v.y

-- the list that tells this component of the vectors of a reference
abbrev pub component_list : Axis → Reference → ListKind
component_list axis.Across k = part.Across k
component_list axis.Down k = part.Down k
