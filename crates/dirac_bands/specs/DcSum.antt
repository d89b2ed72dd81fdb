-- The prediction of an intra picture's LL band.
use Rattle.std.specs.Prelude.{◌≡◌, ℕ, zero, suc, ℤ, pos, ◌+◌, ◌-◌, ◌*◌, ◌/◌, ◌%◌, ◌<◌, ◌==◌, ◌+ℤ◌, List, [], ◌∷◌, ◌++◌}
use Rattle.std.specs.Prelude.{length, slice_index_or, if◌then◌else◌}
use Rattle.dirac_common.specs.Table.{Table, table_at}
use Rattle.dirac_common.specs.Samples.{mean_of_three}

-- the table with these values by rows
abbrev pub by_rows : ℕ → ℕ → List ℤ → Table
by_rows width height values = record { width = width; height = height; values = values }

-- the value in column x of row y of a list by rows
abbrev pub value_at : List ℤ → ℕ → ℕ → ℕ → ℤ
value_at xs width x y = slice_index_or xs (y * width + x) (pos 0)

-- the prediction in column x of row y: 0 first, left in the first row, above in the first column,
-- else the mean of left, above, and above and left
unfoldable pub prediction_in : List ℤ → ℕ → ℕ → ℕ → ℤ
prediction_in xs width x y =
    if y == 0
    then (if x == 0 then pos 0 else value_at xs width (x - 1) 0)
    else if x == 0
    then value_at xs width 0 (y - 1)
    else mean_of_three (value_at xs width (x - 1) y) (value_at xs width x (y - 1)) (value_at xs width (x - 1) (y - 1))

-- that of a table
abbrev pub dc_prediction : Table → ℕ → ℕ → ℤ
dc_prediction t x y = prediction_in t.values t.width x y

-- at every place the sum is the difference plus the prediction that the sums give
pub record IsDcSum (differences sums : Table) : Type 0 where
  pub width : sums.width ≡ differences.width
  pub height : sums.height ≡ differences.height
  pub len : length sums.values ≡ length differences.values
  pub each : (x y : ℕ) → x < sums.width → y < sums.height → table_at sums x y
      ≡ table_at differences x y +ℤ dc_prediction sums x y

-- the sums of the first differences, by rows: each place's prediction is read off the sums before it
unfoldable pub sums_up_to : List ℤ → ℕ → ℕ → List ℤ
sums_up_to differences width zero = []
sums_up_to differences width (suc n) =
    let before = sums_up_to differences width n in
    before ++ (slice_index_or differences n (pos 0) +ℤ prediction_in before width (n % width) (n / width)) ∷ []

-- the sums of a table of differences
abbrev pub dc_sum : Table → Table
dc_sum t = record t { values = sums_up_to t.values t.width (length t.values) }
