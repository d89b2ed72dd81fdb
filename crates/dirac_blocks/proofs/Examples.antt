-- Lists of decisions, computed from small tables.
use Rattle.std.proofs.Common.{◌≡◌, ℕ, pos, true, false, [], ◌∷◌, replicate, refl}
use Rattle.dirac_common.specs.Numbers.{digits_within, digits_of}
use Rattle.dirac_arith.specs.Spelling.{spelling, signed_spelling}
use Rattle.dirac_block_table.specs.declared.block.Block.{Block}
use Rattle.dirac_block_table.specs.Tables.{BlockTable, grey, unit_of, first_in_unit}
use Rattle.dirac_blocks.specs.Decisions.{block_decisions, least_numbers, split_row, split_rows, unit_row, unit_rows, superblock_row, superblock_rows}

-- a block from reference 1
abbrev forward : ℕ → ℕ → Block
forward x y = record grey { ref1 = true; v1 = record { x = pos x; y = pos y } }

-- one superblock of one unit
abbrev one : BlockTable
one = record { across = 1; down = 1; refs = 1; splits = 0 ∷ []; blocks = replicate 16 (forward 0 0) }

one_is_coded : block_decisions one (λ y x. 0)
    ≡ ((22, true) ∷ []) ∷ ((25, true) ∷ []) ∷ ((27, true) ∷ []) ∷ ((27, true) ∷ []) ∷ [] ∷ [] ∷ [] ∷ []
unfolding split_row split_rows unit_row unit_rows superblock_row superblock_rows spelling signed_spelling digits_within digits_of
one_is_coded = refl

-- two superblocks beside one another, which predict one another
abbrev two : BlockTable
two = record { across = 2; down = 1; refs = 1; splits = 0 ∷ 0 ∷ []; blocks = replicate 32 (forward 1 0) }

two_are_coded : block_decisions two (λ y x. 0)
    ≡ ((22, true) ∷ (22, true) ∷ []) ∷ ((25, true) ∷ (25, false) ∷ [])
    ∷ ((27, false) ∷ (32, false) ∷ (28, true) ∷ (33, false) ∷ (27, true) ∷ []) ∷ ((27, true) ∷ (27, true) ∷ []) ∷ [] ∷ [] ∷ [] ∷ []
unfolding split_row split_rows unit_row unit_rows superblock_row superblock_rows spelling signed_spelling digits_within digits_of
two_are_coded = refl

-- a split of 0 behind one of 2 is spelt by the number 1
number_of_zero : least_numbers (record two { splits = 2 ∷ 0 ∷ [] }) 0 1 ≡ 1
number_of_zero = refl

-- column 3 of row 2 is in the last of four units, whose first column is 2
unit_of_a_half : unit_of 1 3 2 ≡ 3
unit_of_a_half = refl

first_of_a_half : first_in_unit 1 3 ≡ 2
first_of_a_half = refl
