-- A level at work: pairs of its rows come and leave in turn.
use Rattle.std.specs.Prelude.{◌≡◌, ℕ, ℤ, ◌+◌, ◌*◌, ◌%◌, ◌≤◌, ◌==◌, List, length, if◌then◌else◌, unsigned_abs}
use Rattle.std.specs.List.{All}
use Rattle.dirac_common.specs.declared.limits.TheConstants.{LARGEST_NARROW, LARGEST_TABLE_SIDE}
use Rattle.dirac_common.specs.Limits.{IsWavelet}
use Rattle.dirac_lift.specs.declared.half_levels.LinesAtWork.{LinesAtWork}
use Rattle.dirac_lift.specs.HalfRows.{column_of}
use Rattle.dirac_lift.specs.Halves.{from_halves}
use Rattle.dirac_lift.specs.Level.{column}
use Rattle.dirac_lift.specs.Rings.{AfterTurns, most_of}

-- the lines of a level, by their places in its rows
abbrev pub lines_of : ℕ → ℕ → List ℤ → List ℤ → ℕ → List ℤ
lines_of w h es os p = column (from_halves w h es os).values w (2 * h) (column_of w p)

-- how many turns after it came a pair of rows is given: by then all steps have gone over it
abbrev pub turns_behind : ℕ → ℕ
turns_behind wavelet = if wavelet == 5 then 7 else 3

-- rings for whose rows 32 bits are enough
pub record AreRings (l : LinesAtWork) : Type 0 where
  pub wavelet : IsWavelet l.wavelet
  pub some : 1 ≤ l.size.width
  pub even : l.size.width % 2 ≡ 0
  pub down : 2 * l.size.half ≤ LARGEST_TABLE_SIDE
  pub evens_len : length l.evens.items ≡ l.size.width * 16
  pub odds_len : length l.odds.items ≡ l.size.width * 16
  pub evens_bound : All (λ v. unsigned_abs v ≤ (most_of l.wavelet).0) l.evens.items
  pub odds_bound : All (λ v. unsigned_abs v ≤ (most_of l.wavelet).1) l.odds.items

-- a level at work on the halves of its rows
pub record IsAtWork (es os : List ℤ) (l : LinesAtWork) : Type 0 where
  pub rings : AreRings l
  pub evens_whole : length es ≡ l.size.width * l.size.half
  pub odds_whole : length os ≡ l.size.width * l.size.half
  pub evens_small : All (λ v. unsigned_abs v ≤ LARGEST_NARROW) es
  pub odds_small : All (λ v. unsigned_abs v ≤ LARGEST_NARROW) os
  pub hold : AfterTurns l.wavelet l.size.width l.size.half l.turn l.turn (lines_of l.size.width l.size.half es os)
      l.evens.items l.odds.items

-- a level of h pairs of rows of w columns that has given the even row of each of the first n pairs, and of no other
pub record HasGiven (k w h n : ℕ) (l : LinesAtWork) : Type 0 where
  pub wavelet : l.wavelet ≡ k
  pub width : l.size.width ≡ w
  pub half : l.size.half ≡ h
  pub turn : l.turn ≡ n + turns_behind k
