-- What a list tells, by rows of superblocks: the splits, or what a part tells of each unit.
use Rattle.std.proofs.Common.{◌≡◌, ℕ, ◌+◌, ◌++◌, [], List, Option, Some, None, Ok, Result, refl}
use Rattle.dirac_common.specs.declared.faults.Cause.{Cause}
use Rattle.dirac_arith.specs.Coded.{read_coded, repeated}
use Rattle.dirac_arith.specs.Interval.{Decision, InContexts}
use Rattle.dirac_arith.specs.Reading.{Reading}
use Rattle.dirac_block_table.specs.Tables.{BlockTable}
use Rattle.dirac_blocks.specs.declared.parts.ListKind.{ListKind}
use Rattle.dirac_blocks.specs.Decisions.{least_numbers, split_row, split_rows, superblock_row, superblock_rows}
use Rattle.dirac_blocks.specs.Grammar.{list_step, step_of}
use Rattle.dirac_blocks.specs.Parts.{list_decisions, list_part, part_at}
use Rattle.dirac_blocks.proofs.InContexts.{in_parts, in_split_rows}
use Rattle.dirac_blocks.proofs.Narrowing.{split_row_next, split_rows_next, superblock_row_next, superblock_rows_next}

-- the list that has no kind
pub none_is : (list : Option ListKind) → ((part : ListKind) → list ≡ Some part → ⊥) → list ≡ None
none_is None other = refl
none_is (Some part) other = absurd (other part refl)

-- superblock after superblock is what a list reads
pub by_superblocks : (list : Option ListKind) (t : BlockTable) (r : Reading) {y : Result (BlockTable × Reading) Cause}
    → read_coded (repeated (λ sy. repeated (list_step list sy) t.across) t.down t) r ≡ y → read_coded (step_of list t) r ≡ y
by_superblocks None t r is = is
by_superblocks (Some p) t r is = is

-- how far a list is read in row sy: to the first sx superblocks, behind all rows before it
pub record RowReached (list : Option ListKind) (old : BlockTable) (across : ℕ) (start : Reading) (sy sx : ℕ) (t : BlockTable) (r : Reading) : Type 0 where
  pub table : BlockTable
  pub reading : Reading
  pub rows : read_coded (repeated (λ k. repeated (list_step list k) across) sy old) start ≡ Ok (table, reading)
  pub row : read_coded (repeated (list_step list sy) sx table) reading ≡ Ok (t, r)

-- what a list codes of the first n superblocks of row sy
abbrev pub list_row : Option ListKind → BlockTable → ℕ → ℕ → List Decision
list_row None t sy n = split_row (least_numbers t) sy n
list_row (Some p) t sy n = superblock_row (part_at p t) t sy n

-- what it codes of the first n rows
abbrev pub list_rows : Option ListKind → BlockTable → ℕ → List Decision
list_rows None t n = split_rows t.across (least_numbers t) n
list_rows (Some p) t n = superblock_rows (part_at p t) t n

pub no_row : (list : Option ListKind) (t : BlockTable) (sy : ℕ) → list_row list t sy 0 ≡ []
unfolding split_row superblock_row
no_row None t sy = refl
no_row (Some p) t sy = refl

pub no_rows : (list : Option ListKind) (t : BlockTable) → list_rows list t 0 ≡ []
unfolding split_rows superblock_rows
no_rows None t = refl
no_rows (Some p) t = refl

pub list_row_next : (list : Option ListKind) (t : BlockTable) (sy n : ℕ) → list_row list t sy (n + 1) ≡ list_row list t sy n ++ list_part list t n sy
list_row_next None t sy n = split_row_next (least_numbers t) sy n
list_row_next (Some p) t sy n = superblock_row_next (part_at p t) t sy n

pub list_rows_next : (list : Option ListKind) (t : BlockTable) (n : ℕ) → list_rows list t (n + 1) ≡ list_rows list t n ++ list_row list t n t.across
list_rows_next None t n = split_rows_next t.across (least_numbers t) n
list_rows_next (Some p) t n = superblock_rows_next (part_at p t) t n

pub all_rows : (list : Option ListKind) (t : BlockTable) → list_rows list t t.down ≡ list_decisions list t
all_rows None t = refl
all_rows (Some p) t = refl

pub in_rows : (list : Option ListKind) (t : BlockTable) (n : ℕ) → InContexts (list_rows list t n)
in_rows None t n = in_split_rows t.across (least_numbers t) n
in_rows (Some p) t n = in_parts p t n
