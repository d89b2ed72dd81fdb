-- Rows of a level that are at work: of its even rows, and of its odd ones, row n stands in slot n % 16 of a ring.
use Rattle.std.specs.Prelude.{◌≡◌, ◌⊎◌, ℕ, ℤ, pos, false, ◌+◌, ◌-◌, ◌*◌, ◌%◌, ◌<◌, ◌≤◌, List, [], length}
use Rattle.std.specs.Prelude.{slice_index_or, unsigned_abs}
use Rattle.std.specs.List.{All}
use Rattle.dirac_common.specs.declared.limits.TheConstants.{LARGEST_NARROW}
use Rattle.dirac_lift.specs.ByLines.{Timed, timed_behind, turns}
use Rattle.dirac_lift.specs.HalfRuns.{after_steps}
use Rattle.dirac_lift.specs.Lanes.{RunPut}
use Rattle.dirac_lift.specs.Lifting.{PlacesWithin, Step, moved, other, own, pair_read, rounded, weighted}
use Rattle.dirac_lift.specs.Wavelets.{steps_of}

-- the value that tap k reads for column x of row n
abbrev pub ring_read : ℕ → ℕ → ℕ → List ℤ → ℕ → ℕ → ℕ → ℤ
ring_read lead w h reads n x k = slice_index_or reads ((pair_read lead h n k % 16) * w + x) (pos 0)

-- the changed value in column x of row n
abbrev pub ring_value : Step → ℕ → ℕ → List ℤ → List ℤ → ℕ → ℕ → ℤ
ring_value s w h owns reads n x =
    moved s.minus (slice_index_or owns ((n % 16) * w + x) (pos 0))
    (rounded s.shift (weighted s.taps (ring_read s.lead w h reads n x) (length s.taps)))

-- in turn m a step that waits changes the row of a ring that has come to it, if there is one
pub record RowLifted (s : Step) (w h m wait : ℕ) (owns reads changed : List ℤ) : Type 0 where
  pub busy : wait ≤ m → m - wait < h
      → RunPut (((m - wait) % 16) * w) w (ring_value s w h owns reads (m - wait)) owns changed
  pub idle : (m < wait) ⊎ (wait + h ≤ m) → changed ≡ owns

-- in turn m row m comes to a ring, if there is one
pub record RowCame (w h m : ℕ) (rows ring after : List ℤ) : Type 0 where
  pub busy : m < h → RunPut ((m % 16) * w) w (λ x. slice_index_or rows (m * w + x) (pos 0)) ring after
  pub idle : h ≤ m → after ≡ ring

-- rings hold rows lo to hi of w lines of 2h values: the places that a step changes, and those that it reads
pub record RingsHold (parity w h lo hi : ℕ) (lines : ℕ → List ℤ) (owns reads : List ℤ) : Type 0 where
  pub owns_len : length owns ≡ w * 16
  pub reads_len : length reads ≡ w * 16
  pub lens : (x : ℕ) → x < w → length (lines x) ≡ 2 * h
  pub changed : (n x : ℕ) → lo ≤ n → n < hi → n < h → x < w
      → slice_index_or owns ((n % 16) * w + x) (pos 0) ≡ slice_index_or (lines x) (own parity n) (pos 0)
  pub read : (n x : ℕ) → lo ≤ n → n < hi → n < h → x < w
      → slice_index_or reads ((n % 16) * w + x) (pos 0) ≡ slice_index_or (lines x) (other parity n) (pos 0)

-- rows come one a turn, as if by a step that reads nothing, and the steps of a wavelet wait for them
abbrev pub coming : Step
coming = record { parity = 0; minus = false; shift = 0; lead = 0; taps = [] }

abbrev pub steps_to_come : ℕ → List Timed
steps_to_come wavelet = timed_behind coming 0 (steps_of wavelet)

-- lines that are narrow as they come
pub record AreNarrowLines (w : ℕ) (lines : ℕ → List ℤ) : Type 0 where
  pub evens : (x : ℕ) → x < w → PlacesWithin LARGEST_NARROW 0 (lines x)
  pub odds : (x : ℕ) → x < w → PlacesWithin LARGEST_NARROW 1 (lines x)

-- how large the values of a wavelet's columns become
abbrev pub most_of : ℕ → ℕ × ℕ
most_of wavelet = after_steps (steps_of wavelet) (LARGEST_NARROW, LARGEST_NARROW)

-- the rings hold what m turns have made of lines, the last 16 rows of each
abbrev pub AfterTurns : ℕ → ℕ → ℕ → ℕ → ℕ → (ℕ → List ℤ) → List ℤ → List ℤ → Type 0
AfterTurns wavelet w h m hi lines evens odds =
    RingsHold 0 w h (hi - 16) hi (λ x. turns (steps_to_come wavelet) m (lines x)) evens odds

-- rings in which turn m can be run
pub record CanTurn (wavelet w h m : ℕ) (evens odds : List ℤ) : Type 0 where
  pub lines : ℕ → List ℤ
  pub narrow : AreNarrowLines w lines
  pub hold : AfterTurns wavelet w h m (m + 1) lines evens odds
  pub evens_bound : All (λ v. unsigned_abs v ≤ (most_of wavelet).0) evens
  pub odds_bound : All (λ v. unsigned_abs v ≤ (most_of wavelet).1) odds
