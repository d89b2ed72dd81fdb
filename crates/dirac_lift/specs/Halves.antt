-- Lifting where the even places of lines stand in one list and the odd ones in another. A list holds one half of each
-- of w lines: the value of pair n of line x at place n * w + x. With w = 1 it's one half of a single line.
use Rattle.std.specs.Prelude.{◌≡◌, ℕ, ℤ, pos, ◌+◌, ◌-◌, ◌*◌, ◌^◌, ◌<◌, ◌≤◌, List, length, slice_index_or, unsigned_abs}
use Rattle.std.specs.Prelude.{◌/◌, ◌%◌, ◌==◌, if◌then◌else◌}
use Rattle.std.specs.List.{All, sum_by}
use Rattle.dirac_common.specs.Table.{Table, table_of}
use Rattle.dirac_lift.specs.Lifting.{Step, moved, other, own, pair_read, rounded, weighted}

-- the value that tap k reads for pair n of line x
abbrev pub half_read : ℕ → ℕ → ℕ → List ℤ → ℕ → ℕ → ℕ → ℤ
half_read lead w h reads n x k = slice_index_or reads (pair_read lead h n k * w + x) (pos 0)

-- the changed value of pair n of line x
abbrev pub half_value : Step → ℕ → ℕ → List ℤ → List ℤ → ℕ → ℕ → ℤ
half_value s w h owns reads n x =
    moved s.minus (slice_index_or owns (n * w + x) (pos 0))
    (rounded s.shift (weighted s.taps (half_read s.lead w h reads n x) (length s.taps)))

-- one half of w lines is changed by a step that reads the other half
pub record HalfLifted (s : Step) (w h : ℕ) (owns reads changed : List ℤ) : Type 0 where
  pub len : length changed ≡ length owns
  pub each : (n x : ℕ) → n < h → x < w
      → slice_index_or changed (n * w + x) (pos 0) ≡ half_value s w h owns reads n x

-- the weighted sums of values that are read stay small
pub record IsReadable (taps reads : List ℤ) : Type 0 where
  pub bound : ℕ
  pub within : All (λ v. unsigned_abs v ≤ bound) reads
  pub in_32_bits : bound < 2 ^ 31
  pub fits : sum_by unsigned_abs taps * bound ≤ 2 ^ 31 - 2 ^ 22

-- the two halves of a line, of which a step changes the first
pub record AreHalvesOfLine (parity : ℕ) (owns reads line : List ℤ) : Type 0 where
  pub len : length line ≡ 2 * length owns
  pub alike : length reads ≡ length owns
  pub changed : (n : ℕ) → slice_index_or line (own parity n) (pos 0) ≡ slice_index_or owns n (pos 0)
  pub read : (n : ℕ) → slice_index_or line (other parity n) (pos 0) ≡ slice_index_or reads n (pos 0)

-- the place of column x in a row whose even columns stand before its odd ones
abbrev pub place_in_halves : ℕ → ℕ → ℕ
place_in_halves width x = if x % 2 == 0 then x / 2 else width / 2 + x / 2

-- the plane whose even rows stand in one list and whose odd rows in another, h of each, in each row the even columns
-- before the odd ones
abbrev pub from_halves : ℕ → ℕ → List ℤ → List ℤ → Table
from_halves w h evens odds =
    table_of w (2 * h)
    (λ x y. slice_index_or (if y % 2 == 0 then evens else odds) (y / 2 * w + place_in_halves w x) (pos 0))
