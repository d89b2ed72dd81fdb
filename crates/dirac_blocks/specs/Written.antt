-- The bits of a block table: a length and an arithmetic block for each of its lists.
use Rattle.std.specs.Prelude.{ℕ, ◌+◌, ◌^◌, ◌<◌, Bool, List, [], ◌∷◌, ◌++◌, length}
use Rattle.dirac_common.specs.Bits.{bits_of}
use Rattle.dirac_common.specs.Numbers.{uint}
use Rattle.dirac_arith.specs.Interval.{Decision}
use Rattle.dirac_arith.specs.Written.{flush}
use Rattle.dirac_bits.specs.Writing.{up_to_byte}

-- the bits with a block behind them: its length, 0 up to the next byte, and its bytes
abbrev pub with_block : List ℕ → List Bool → List Bool
with_block block bits = up_to_byte (bits ++ uint (length block)) ++ bits_of block

-- the bits with the blocks of these lists behind them
abbrev pub with_lists : List (List Decision) → List Bool → List Bool
with_lists [] bits = bits
with_lists (ds ∷ more) bits = with_lists more (with_block (flush ds) bits)

-- the length of each list's block can be spelt
abbrev pub ListsHaveShortBlocks : List (List Decision) → Type 0
ListsHaveShortBlocks [] = Unit {0}
ListsHaveShortBlocks (ds ∷ more) = (length (flush ds) + 1 < 2 ^ 39) × ListsHaveShortBlocks more
