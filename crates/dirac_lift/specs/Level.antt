-- One level of the transform over a plane: columns, then rows, then the last halving.
use Rattle.std.specs.Prelude.{ℕ, ℤ, pos, ◌+◌, ◌*◌, ◌+ℤ◌, List, map, slice_index_or, slice_range, if◌then◌else◌}
use Rattle.std.specs.List.{range_with_len}
use Rattle.dirac_common.specs.Table.{Table, filled}
use Rattle.dirac_bands.specs.Interleaving.{joined}
use Rattle.dirac_lift.specs.Lifting.{rounded}
use Rattle.dirac_lift.specs.Wavelets.{analyse, has_shift, synth}

-- column x of the values of a plane by rows
unfoldable pub column : List ℤ → ℕ → ℕ → ℕ → List ℤ
column xs width height x = map (λ y. slice_index_or xs (y * width + x) (pos 0)) (range_with_len 0 height)

-- row y of the values of a plane by rows
abbrev pub row_in : List ℤ → ℕ → ℕ → List ℤ
row_in xs width y = slice_range xs (y * width) (y * width + width)

-- a plane with each column changed
abbrev pub columns_by : (List ℤ → List ℤ) → Table → Table
columns_by f t = record t {
  values = filled t.width t.height (λ x y. slice_index_or (f (column t.values t.width t.height x)) y (pos 0));
}

-- a plane with each row changed
abbrev pub rows_by : (List ℤ → List ℤ) → Table → Table
rows_by f t = record t {
  values = filled t.width t.height (λ x y. slice_index_or (f (row_in t.values t.width y)) x (pos 0));
}

-- a value halved, to the nearest, halves up
abbrev pub halved : ℤ → ℤ
halved v = rounded 1 v

-- a value doubled
abbrev pub doubled : ℤ → ℤ
doubled v = v +ℤ v

-- the last halving of a level, where the wavelet's shift is 1
abbrev pub last_halved : ℕ → List ℤ → List ℤ
last_halved wavelet xs = if has_shift wavelet then map halved xs else xs

-- the first doubling, which that halving takes back
abbrev pub first_doubled : ℕ → List ℤ → List ℤ
first_doubled wavelet xs = if has_shift wavelet then map doubled xs else xs

-- the synthesis of a plane whose four bands are interleaved
abbrev pub synthesised : ℕ → Table → Table
synthesised wavelet t =
    let lifted = rows_by (synth wavelet) (columns_by (synth wavelet) t) in
    record lifted { values = last_halved wavelet lifted.values }

-- the next level's LL band, of the four bands of one level
abbrev pub level : ℕ → Table → Table → Table → Table → Table
level wavelet ll hl lh hh = synthesised wavelet (joined ll hl lh hh)

-- the analysis of a plane, which leaves its four bands interleaved
abbrev pub analysed : ℕ → Table → Table
analysed wavelet t =
    columns_by (analyse wavelet) (rows_by (analyse wavelet) (record t { values = first_doubled wavelet t.values }))
