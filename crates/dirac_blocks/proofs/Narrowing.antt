-- Lists of decisions that are written one after the other, and how the lists of a table grow.
use Rattle.std.proofs.Common.{◌≡◌, ℕ, zero, suc, ◌+◌, ◌*◌, List, [], ◌∷◌, ◌++◌, refl}
use native.Mathlib.Numerals.{unary_clauses}
use Rattle.dirac_arith.specs.Interval.{Decision}
use Rattle.dirac_arith.specs.Spelling.{spelling}
use Rattle.dirac_block_table.specs.declared.block.Block.{Block}
use Rattle.dirac_block_table.specs.Tables.{BlockTable}
use Rattle.dirac_blocks.specs.Decisions.{Numbers, UnitPart, split_row, split_rows, unit_row, unit_rows, superblock_part, superblock_row, superblock_rows}

pub unit_row_next : (part : UnitPart) (size i j n : ℕ) → unit_row part size i j (n + 1) ≡ unit_row part size i j n ++ part (i + n * size) j
unfolding unit_row
unit_row_next part size i j n = simp unary_clauses refl

pub unit_rows_next : (part : UnitPart) (size across i j n : ℕ) → unit_rows part size across i j (n + 1) ≡ unit_rows part size across i j n ++ unit_row part size i (j + n * size) across
unfolding unit_rows
unit_rows_next part size across i j n = simp unary_clauses refl

pub superblock_row_next : (part : UnitPart) (t : BlockTable) (sy n : ℕ) → superblock_row part t sy (n + 1) ≡ superblock_row part t sy n ++ superblock_part part t n sy
unfolding superblock_row
superblock_row_next part t sy n = simp unary_clauses refl

pub superblock_rows_next : (part : UnitPart) (t : BlockTable) (n : ℕ) → superblock_rows part t (n + 1) ≡ superblock_rows part t n ++ superblock_row part t n t.across
unfolding superblock_rows
superblock_rows_next part t n = simp unary_clauses refl

pub split_row_next : (numbers : Numbers) (sy n : ℕ) → split_row numbers sy (n + 1) ≡ split_row numbers sy n ++ spelling (22 ∷ 23 ∷ []) 24 (numbers sy n)
unfolding split_row
split_row_next numbers sy n = simp unary_clauses refl

pub split_rows_next : (across : ℕ) (numbers : Numbers) (n : ℕ) → split_rows across numbers (n + 1) ≡ split_rows across numbers n ++ split_row numbers n across
unfolding split_rows
split_rows_next across numbers n = simp unary_clauses refl

-- what holds of two lists where there is no decision, and of those that are made of lists of which it holds
pub record Joins (R : List Decision → List Decision → Type 0) : Type 0 where
  pub none : R [] []
  pub both : (a b c d : List Decision) → R a c → R b d → R (a ++ b) (c ++ d)

-- so it holds of the lists of two tables of one shape, where it does of each unit's
unit_row_joins : (R : List Decision → List Decision → Type 0) → Joins R → (p q : UnitPart) (size i j n : ℕ) → ((x y : ℕ) → R (p x y) (q x y)) → R (unit_row p size i j n) (unit_row q size i j n)
unfolding unit_row
unit_row_joins R k p q size i j zero each = k.none
unit_row_joins R k p q size i j (suc n) each = k.both _ _ _ _ (unit_row_joins R k p q size i j n each) (each (i + n * size) j)

unit_rows_joins : (R : List Decision → List Decision → Type 0) → Joins R → (p q : UnitPart) (size across i j n : ℕ) → ((x y : ℕ) → R (p x y) (q x y)) → R (unit_rows p size across i j n) (unit_rows q size across i j n)
unfolding unit_rows
unit_rows_joins R k p q size across i j zero each = k.none
unit_rows_joins R k p q size across i j (suc n) each = k.both _ _ _ _ (unit_rows_joins R k p q size across i j n each) (unit_row_joins R k p q size i (j + n * size) across each)

superblock_row_joins : (R : List Decision → List Decision → Type 0) → Joins R → (p q : UnitPart) (t : BlockTable) (bs : List Block) (sy n : ℕ) → ((x y : ℕ) → R (p x y) (q x y))
    → R (superblock_row p (record t { blocks = bs }) sy n) (superblock_row q t sy n)
unfolding superblock_row
superblock_row_joins R k p q t bs sy zero each = k.none
superblock_row_joins R k p q t bs sy (suc n) each = k.both _ _ _ _ (superblock_row_joins R k p q t bs sy n each) (unit_rows_joins R k p q _ _ _ _ _ each)

pub superblock_rows_joins : (R : List Decision → List Decision → Type 0) → Joins R → (p q : UnitPart) (t : BlockTable) (bs : List Block) (n : ℕ) → ((x y : ℕ) → R (p x y) (q x y))
    → R (superblock_rows p (record t { blocks = bs }) n) (superblock_rows q t n)
unfolding superblock_rows
superblock_rows_joins R k p q t bs zero each = k.none
superblock_rows_joins R k p q t bs (suc n) each = k.both _ _ _ _ (superblock_rows_joins R k p q t bs n each) (superblock_row_joins R k p q t bs n t.across each)
