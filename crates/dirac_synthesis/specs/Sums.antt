-- Planes that are summed with predictions, some rows of these at a time.
use Rattle.std.specs.Prelude.{◌≡◌, ℕ, ◌*◌, ◌<◌, ◌≤◌, length}
use Rattle.dirac_common.specs.Table.{Table}
use Rattle.dirac_synthesis.specs.declared.sums.Strip.{Strip}
use Rattle.dirac_synthesis.specs.Residual.{rows_between}

-- a table of so many columns and rows
pub record IsOfSize (width height : ℕ) (t : Table) : Type 0 where
  pub across : t.width ≡ width
  pub down : t.height ≡ height
  pub whole : length t.values ≡ width * height

-- some rows of a plane's predictions
pub record IsStripOf (predicted : Table) (s : Strip) : Type 0 where
  pub values : s.values ≡ rows_between s.first s.end predicted
  pub some : s.first < s.end
  pub inside : s.end ≤ predicted.height
