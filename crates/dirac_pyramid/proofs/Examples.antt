-- Levels worked out by hand.
use Rattle.std.proofs.Common.{◌≡◌, pos, negsuc, ◌∷◌, [], refl}
use Rattle.dirac_common.specs.Table.{Table, filled}
use Rattle.dirac_pyramid.specs.Pyramid.{pyramid_of, shrunk}

-- the level above a row 1, 2, 5 is 2, 5
above_a_row : shrunk (record { width = 3; height = 1; values = pos 1 ∷ pos 2 ∷ pos 5 ∷ [] }) ≡ record { width = 2; height = 1; values = pos 2 ∷ pos 5 ∷ [] }
unfolding shrunk filled
above_a_row = refl

abbrev three_rows : Table
three_rows = record {
  width = 3;
  height = 3;
  values = pos 1 ∷ pos 2 ∷ pos 5 ∷ negsuc 2 ∷ pos 4 ∷ pos 0 ∷ pos 7 ∷ negsuc 7 ∷ negsuc 0 ∷ [];
}

-- means below 0 are rounded up at a half too: -1 of four samples -1, 0 of 7, -8, 7, -8
two_levels : pyramid_of three_rows 2 ≡
    three_rows
    ∷ record { width = 2; height = 2; values = pos 1 ∷ pos 3 ∷ pos 0 ∷ negsuc 0 ∷ [] }
    ∷ record { width = 1; height = 1; values = pos 1 ∷ [] }
    ∷ []
unfolding shrunk filled
two_levels = refl
