-- The samples of a plane, by column and row, whatever is predicted for them.
use Rattle.std.specs.Prelude.{◌≡◌, ℕ, ℤ, pos, ◌+◌, ◌*◌, ◌≤◌, ◌+ℤ◌, length, slice_index_or}
use Rattle.dirac_common.specs.Samples.{clip}
use Rattle.dirac_common.specs.Table.{Table, table_at}
use Rattle.dirac_synthesis.specs.declared.strips.Others.{Others}
use Rattle.dirac_synthesis.specs.declared.strips.Others.TheVariants.{Nothing, Predicted}
use Rattle.dirac_synthesis.specs.Residual.{with_prediction}

-- a value of a residual, clipped with what is predicted for place k
abbrev pub clipped_with : Others → ℤ → ℕ → ℤ
clipped_with Nothing v k = clip v
clipped_with (Predicted values) v k = clip (v +ℤ slice_index_or values.now k (pos 0))

-- a sample of a plane
abbrev pub sample_at : Others → Table → ℕ → ℕ → ℤ
sample_at others t x y = clipped_with others (table_at t x y) (y * t.width + x)

-- a residual with what is predicted for it
abbrev pub with_others : Others → Table → Table
with_others Nothing t = t
with_others (Predicted values) t = with_prediction t values.now

-- as many values are predicted, where any are, or at least as many
abbrev pub AreAsMany : Others → ℕ → Type 0
AreAsMany Nothing count = Unit {0}
AreAsMany (Predicted values) count = length values.now ≡ count

abbrev pub AreEnough : Others → ℕ → Type 0
AreEnough Nothing count = Unit {0}
AreEnough (Predicted values) count = count ≤ length values.now
