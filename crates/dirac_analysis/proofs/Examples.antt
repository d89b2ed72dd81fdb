-- Worked values of the definitions.
use Rattle.std.proofs.Common.{◌≡◌, pos, negsuc, [], ◌∷◌, refl}
use Rattle.dirac_common.specs.Table.{Table, filled}
use Rattle.dirac_coeffs.specs.declared.layout.CodedBand.{CodedBand}
use Rattle.dirac_coeffs.specs.Written.{all_below}
use Rattle.dirac_analysis.specs.Coded.{coded, index_behind}

-- two codeblocks of 2 by 2: all magnitudes of the first are below 64, in the second one is 64
abbrev two_codeblocks : Table
two_codeblocks = record {
  width = 4;
  height = 2;
  values = pos 10 ∷ negsuc 19 ∷ pos 64 ∷ pos 0 ∷ pos 3 ∷ pos 63 ∷ pos 1 ∷ negsuc 4 ∷ [];
}

-- the first is quantised by 2, at index 4, and the second by 4, at index 8
two_coded : coded (2, 1) 4 8 two_codeblocks
    ≡ (let b : CodedBand = record {
      index = 8;
      indices = 4 ∷ 8 ∷ [];
      table = record { width = 4; height = 2; values = pos 5 ∷ negsuc 9 ∷ pos 16 ∷ pos 0 ∷ pos 1 ∷ pos 31 ∷ pos 0 ∷ negsuc 0 ∷ [] };
    } in b)
unfolding filled all_below index_behind
two_coded = refl

-- the codeblock between a flat one and another is skipped: it has the index of the one before it
abbrev one_between : Table
one_between = record { width = 3; height = 1; values = negsuc 9 ∷ pos 1 ∷ pos 100 ∷ [] }

between_coded : coded (3, 1) 4 8 one_between
    ≡ (let b : CodedBand = record { index = 8; indices = 4 ∷ 4 ∷ 8 ∷ []; table = record { width = 3; height = 1; values = negsuc 4 ∷ pos 0 ∷ pos 25 ∷ [] } } in b)
unfolding filled all_below index_behind
between_coded = refl

-- the first codeblock is skipped: it has the band's index, though it is flat
abbrev first_skipped : Table
first_skipped = record { width = 3; height = 1; values = pos 1 ∷ pos 63 ∷ negsuc 63 ∷ [] }

first_coded : coded (3, 1) 4 8 first_skipped
    ≡ (let b : CodedBand = record { index = 8; indices = 8 ∷ 4 ∷ 8 ∷ []; table = record { width = 3; height = 1; values = pos 0 ∷ pos 31 ∷ negsuc 15 ∷ [] } } in b)
unfolding filled all_below index_behind
first_coded = refl

-- one codeblock has no zero flag; its index is lower by `finer`, but at least 0
abbrev one_value : Table
one_value = record { width = 1; height = 1; values = pos 1 ∷ [] }

one_coded : coded (1, 1) 9 8 one_value ≡ (let b : CodedBand = record { index = 8; indices = 0 ∷ []; table = one_value } in b)
unfolding filled all_below index_behind
one_coded = refl

-- in a band of zeros all indices are 0
zeros_coded : coded (1, 1) 4 8 one_value ≡ (let b : CodedBand = record { index = 0; indices = 0 ∷ []; table = record { width = 1; height = 1; values = pos 0 ∷ [] } } in b)
unfolding filled all_below index_behind
zeros_coded = refl

-- two values have three codeblocks, of which the first has no columns: it is flat, and skipped
abbrev two_values : Table
two_values = record { width = 2; height = 1; values = pos 64 ∷ pos 63 ∷ [] }

empty_coded : coded (3, 1) 4 8 two_values
    ≡ (let b : CodedBand = record { index = 8; indices = 8 ∷ 8 ∷ 4 ∷ []; table = record { width = 2; height = 1; values = pos 16 ∷ pos 31 ∷ [] } } in b)
unfolding filled all_below index_behind
empty_coded = refl
