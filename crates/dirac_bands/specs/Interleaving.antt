-- How four subbands of one level make one plane: LL at even columns and rows, HL at odd columns, LH at odd rows, HH at
-- both odd.
use Rattle.std.specs.Prelude.{ℕ, ℤ, pos, ◌+◌, ◌*◌, ◌/◌, ◌%◌, ◌==◌, List, length, map, slice_index_or, if◌then◌else◌}
use Rattle.std.specs.List.{range_with_len}
use Rattle.dirac_common.specs.Table.{Table, table_at, table_of}

-- the band that a place of the plane belongs to
abbrev pub band_holding : Table → Table → Table → Table → ℕ → ℕ → Table
band_holding ll hl lh hh x y =
    if y % 2 == 0 then (if x % 2 == 0 then ll else hl) else (if x % 2 == 0 then lh else hh)

-- the value of the plane in column x of row y
abbrev pub joined_at : Table → Table → Table → Table → ℕ → ℕ → ℤ
joined_at ll hl lh hh x y = table_at (band_holding ll hl lh hh x y) (x / 2) (y / 2)

-- the plane that four bands of one size interleave to
abbrev pub joined : Table → Table → Table → Table → Table
joined ll hl lh hh = table_of (2 * ll.width) (2 * ll.height) (joined_at ll hl lh hh)

-- the band of a plane's columns 2n + right and rows 2n + below
abbrev pub band_of : Table → ℕ → ℕ → Table
band_of t right below =
    table_of (t.width / 2) (t.height / 2) (λ x y. table_at t (2 * x + right) (2 * y + below))

-- the value at place x where two lists stand in turn
abbrev pub interleaved_at : List ℤ → List ℤ → ℕ → ℤ
interleaved_at even odd x = slice_index_or (if x % 2 == 0 then even else odd) (x / 2) (pos 0)

-- the values of two lists in turn
unfoldable pub interleaved : List ℤ → List ℤ → List ℤ
interleaved even odd = map (interleaved_at even odd) (range_with_len 0 (2 * length even))

-- the values of a list at places 2n + first
unfoldable pub every_other : List ℤ → ℕ → List ℤ
every_other line first = map (λ n. slice_index_or line (2 * n + first) (pos 0)) (range_with_len 0 (length line / 2))
