-- The blocks that stand for a whole block table.
use Rattle.std.specs.Prelude.{◌≡◌, ℕ, zero, suc, ◌-◌, ◌^◌, ◌<◌, List, [], ◌∷◌, length, Ok}
use Rattle.dirac_arith.specs.Carried.{Carries}
use Rattle.dirac_arith.specs.Interval.{Decision}
use Rattle.dirac_bits.specs.Cursor.{Cursor}
use Rattle.dirac_bits.specs.Syntax.{Syntax, done, uint, align, block, read, ◌>>=◌}
use Rattle.dirac_blocks.specs.Decisions.{Numbers, AreSplitNumbers, block_decisions}
use Rattle.dirac_block_table.specs.Tables.{BlockTable, IsBlockTable}

-- a length and, from the next byte on, a block of that many bytes
abbrev pub one_block : Syntax (List ℕ)
one_block = do
  len ← uint
  gap ← align
  block len

-- that many blocks, each behind its length
unfoldable pub some_blocks : ℕ → Syntax (List (List ℕ))
some_blocks zero = done []
some_blocks (suc n) = do
  first ← one_block
  more ← some_blocks n
  done (first ∷ more)

-- that many blocks from the next byte on
abbrev pub raw_blocks : ℕ → Syntax (List (List ℕ))
raw_blocks n = do
  gap ← align
  some_blocks n

-- as many blocks as lists, each of which carries the list in its place
abbrev pub EachCarries : List (List ℕ) → List (List Decision) → Type 0
EachCarries [] [] = Unit {0}
EachCarries [] (ds ∷ lists) = ⊥
EachCarries (bytes ∷ blocks) [] = ⊥
EachCarries (bytes ∷ blocks) (ds ∷ lists) = Carries bytes ds × EachCarries blocks lists

-- the blocks that stand from one place to another carry the lists of a lawful table; the splits by some numbers
-- whose sums with the predictions they are, each short enough to be spelt
pub record StandFor (t : BlockTable) (c d : Cursor) : Type 0 where
  pub lawful : IsBlockTable t
  pub numbers : Numbers
  pub are : AreSplitNumbers t numbers
  pub small : (sx sy : ℕ) → sx < t.across → sy < t.down → numbers sy sx < 2 ^ 39 - 1
  pub blocks : List (List ℕ)
  pub stand : read (raw_blocks (length (block_decisions t numbers))) c ≡ Ok (blocks, d)
  pub carry : EachCarries blocks (block_decisions t numbers)
