-- Windows of a level: some pairs of its rows, next to one another, are synthesised as a level of their own.
use Rattle.std.specs.Prelude.{◌≡◌, ℕ, ℤ, ◌+◌, ◌-◌, ◌*◌, ◌<◌, ◌≤◌, ◌==◌, List, slice_range, if◌then◌else◌}
use Rattle.dirac_common.specs.Limits.{IsWavelet}
use Rattle.dirac_common.specs.Table.{Table}
use Rattle.dirac_lift.specs.Halves.{from_halves}
use Rattle.dirac_lift.specs.Level.{row_in, synthesised}

-- how many pairs of rows, at an end of a window that isn't an end of the level, may come out otherwise than in the
-- level; the steps of a wavelet together read no further up or down
abbrev pub margin : ℕ → ℕ
margin wavelet = if wavelet == 5 then 7 else 3

-- pairs a .. b of the rows in a half of a level of w columns
abbrev pub window_half : ℕ → ℕ → ℕ → List ℤ → List ℤ
window_half w a b half = slice_range half (a * w) (b * w)

-- the plane of pairs a .. b of a level of w columns, which is told by its halves
abbrev pub window : ℕ → ℕ → ℕ → List ℤ → List ℤ → Table
window w a b evens odds = from_halves w (b - a) (window_half w a b evens) (window_half w a b odds)

-- rows from .. to of a level of h pairs are in the window of pairs a .. b, and a margin away from each end of it that
-- isn't an end of the level
pub record AreInsideWindow (wavelet h a b from to : ℕ) : Type 0 where
  pub some : a < b
  pub down : b ≤ h
  pub ordered : from ≤ to
  pub first : 2 * a ≤ from
  pub last : to ≤ 2 * b
  pub above : 0 < a → 2 * (a + margin wavelet) ≤ from
  pub below : b < h → to + 2 * margin wavelet ≤ 2 * b

-- such a row of the level is a row of the synthesised window
abbrev pub WindowsHaveRows : Type 0
WindowsHaveRows =
    (wavelet w h a b y : ℕ) (evens odds : List ℤ) → IsWavelet wavelet → AreInsideWindow wavelet h a b y (y + 1)
    → row_in (synthesised wavelet (window w a b evens odds)).values w (y - 2 * a)
    ≡ row_in (synthesised wavelet (from_halves w h evens odds)).values w y

-- and such rows of the level, as one list, are rows of it
abbrev pub WindowsHaveStrips : Type 0
WindowsHaveStrips =
    (wavelet w h a b from to : ℕ) (evens odds : List ℤ) → IsWavelet wavelet → AreInsideWindow wavelet h a b from to
    → slice_range (synthesised wavelet (window w a b evens odds)).values ((from - 2 * a) * w) ((to - 2 * a) * w)
    ≡ slice_range (synthesised wavelet (from_halves w h evens odds)).values (from * w) (to * w)
