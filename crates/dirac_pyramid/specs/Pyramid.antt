-- The pyramid of a plane: the plane itself, and above it levels of half the size each.
use Rattle.std.specs.Prelude.{ℕ, zero, suc, ℤ, pos, ◌+◌, ◌-◌, ◌*◌, ◌/◌, ◌+ℤ◌, min, List, [], ◌∷◌, length, map}
use Rattle.std.specs.Prelude.{slice_index_or}
use Rattle.std.specs.Int.{int_shr}
use Rattle.std.specs.List.{range_with_len}
use Rattle.dirac_common.specs.Table.{Table, clamped_at, table_of}

-- the mean of four samples, rounded to the nearest, halves up
abbrev pub mean_of_four : ℤ → ℤ → ℤ → ℤ → ℤ
mean_of_four a b c d = int_shr (((a +ℤ b) +ℤ (c +ℤ d)) +ℤ pos 2) 2

-- the sample in column x of row y of the next level: the mean of two by two, positions clamped to the plane
abbrev pub shrunk_at : Table → ℕ → ℕ → ℤ
shrunk_at t x y =
    mean_of_four
    (clamped_at t (pos (2 * x)) (pos (2 * y)))
    (clamped_at t (pos (2 * x + 1)) (pos (2 * y)))
    (clamped_at t (pos (2 * x)) (pos (2 * y + 1)))
    (clamped_at t (pos (2 * x + 1)) (pos (2 * y + 1)))

-- the next level: half the size, rounded up
unfoldable pub shrunk : Table → Table
shrunk t = table_of ((t.width + 1) / 2) ((t.height + 1) / 2) (shrunk_at t)

-- level l of a plane's pyramid; level 0 is the plane
abbrev pub pyramid_level : Table → ℕ → Table
pyramid_level t zero = t
pyramid_level t (suc l) = shrunk (pyramid_level t l)

-- the levels 0 to `levels`
abbrev pub pyramid_of : Table → ℕ → List Table
pyramid_of t levels = map (pyramid_level t) (range_with_len 0 (levels + 1))

-- what stands for a level that a pyramid doesn't have: one sample of value 0
abbrev pub no_plane : Table
no_plane = record { width = 1; height = 1; values = pos 0 ∷ [] }

-- the mean of the samples in two columns of two rows
abbrev pub mean_at : List ℤ → List ℤ → ℕ → ℕ → ℤ
mean_at above below left right =
    mean_of_four
    (slice_index_or above left (pos 0))
    (slice_index_or above right (pos 0))
    (slice_index_or below left (pos 0))
    (slice_index_or below right (pos 0))

-- column x of the row of the next level that two rows give: columns beyond the last are the last
abbrev pub half_row : List ℤ → List ℤ → ℕ → ℤ
half_row above below x = mean_at above below (2 * x) (min (2 * x + 1) (length above - 1))
