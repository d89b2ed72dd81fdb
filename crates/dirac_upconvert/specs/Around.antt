-- Eight samples, or rows, four on each side of a half sample.
use Rattle.std.specs.Prelude.{◌≡◌, ℕ, ℤ, pos, List, length, slice_index_or}
use Rattle.std.specs.Borrow.{Bor}
use Rattle.std.specs.List.{All}
use Rattle.dirac_upconvert.specs.declared.half_sample.Around.{Around}
use Rattle.dirac_upconvert.specs.HalfSamples.{IsSample, half_between}

-- eight samples, four on each side of a half sample
pub record AreSamplesAround (of : Around ℤ) : Type 0 where
  pub a3 : IsSample of.a3
  pub a2 : IsSample of.a2
  pub a1 : IsSample of.a1
  pub a0 : IsSample of.a0
  pub b0 : IsSample of.b0
  pub b1 : IsSample of.b1
  pub b2 : IsSample of.b2
  pub b3 : IsSample of.b3

-- the half sample between eight values, four on each side of it
abbrev pub between_those : Around ℤ → ℤ
between_those of = half_between of.a3 of.a2 of.a1 of.a0 of.b0 of.b1 of.b2 of.b3

-- a row of that many samples
pub record IsRowOf (count : ℕ) (row : List ℤ) : Type 0 where
  pub len : length row ≡ count
  pub samples : All IsSample row

-- eight rows of that many samples, four on each side of a row of half samples
pub record AreRowsAround (count : ℕ) (of : Around (Bor (List ℤ))) : Type 0 where
  pub a3 : IsRowOf count of.a3.now
  pub a2 : IsRowOf count of.a2.now
  pub a1 : IsRowOf count of.a1.now
  pub a0 : IsRowOf count of.a0.now
  pub b0 : IsRowOf count of.b0.now
  pub b1 : IsRowOf count of.b1.now
  pub b2 : IsRowOf count of.b2.now
  pub b3 : IsRowOf count of.b3.now

-- the half sample in column x between eight rows, four on each side of it
abbrev pub between_rows_at : Around (Bor (List ℤ)) → ℕ → ℤ
between_rows_at of x =
    half_between (slice_index_or of.a3.now x (pos 0)) (slice_index_or of.a2.now x (pos 0))
    (slice_index_or of.a1.now x (pos 0)) (slice_index_or of.a0.now x (pos 0)) (slice_index_or of.b0.now x (pos 0))
    (slice_index_or of.b1.now x (pos 0)) (slice_index_or of.b2.now x (pos 0)) (slice_index_or of.b3.now x (pos 0))
