-- Lifting steps that are run line by line: in each turn each step changes one pair, and a step waits for the one before
-- it, so that only a few lines are at work at once.
use Rattle.std.specs.Prelude.{◌≡◌, ℕ, zero, suc, ℤ, pos, ◌+◌, ◌-◌, ◌/◌, ◌%◌, ◌<◌, ◌≤◌, ◌&&◌, nat_le, nat_lt, max, List}
use Rattle.std.specs.Prelude.{[], ◌∷◌, length, slice_index_or, slice_set, if◌then◌else◌}
use Rattle.dirac_common.specs.Limits.{IsWavelet}
use Rattle.dirac_lift.specs.Lifting.{Step, new_at, own}
use Rattle.dirac_lift.specs.Wavelets.{analyse, steps_of, synth, taken_back}

-- a step, and how many turns it waits
pub record Timed : Type 0 where
  pub step : Step
  pub wait : ℕ

-- a line with pair n changed by a step
abbrev pub pair_changed : Step → ℕ → List ℤ → List ℤ
pair_changed s n xs = slice_set xs (own s.parity n) (new_at s xs n)

-- what a step does in turn m: it changes the pair that has come to it, if there is one
abbrev pub in_turn : Timed → ℕ → List ℤ → List ℤ
in_turn t m xs =
    if nat_le t.wait m && nat_lt (m - t.wait) (length xs / 2) then pair_changed t.step (m - t.wait) xs else xs

-- what all steps do in turn m, one after another
abbrev pub turn : List Timed → ℕ → List ℤ → List ℤ
turn [] m xs = xs
turn (t ∷ ts) m xs = turn ts m (in_turn t m xs)

-- what they do in the first turns
abbrev pub turns : List Timed → ℕ → List ℤ → List ℤ
turns ts zero xs = xs
turns ts (suc m) xs = turn ts m (turns ts m xs)

-- how far a step stays behind the one before it: that one no longer reads what this one changes, and has changed all
-- that this one reads
abbrev pub distance : Step → Step → ℕ
distance before s = max before.lead (length s.taps - 1 - s.lead)

-- steps that wait, behind one that waits that long
abbrev pub timed_behind : Step → ℕ → List Step → List Timed
timed_behind before wait [] = []
timed_behind before wait (s ∷ ss) =
    record { step = s; wait = wait + distance before s } ∷ timed_behind s (wait + distance before s) ss

-- steps of which each waits for the one before it
abbrev pub timed : List Step → List Timed
timed [] = []
timed (s ∷ ss) = record { step = s; wait = 0 } ∷ timed_behind s 0 ss

-- how long the one waits that waits longest
abbrev pub longest_wait : List Timed → ℕ
longest_wait [] = 0
longest_wait (t ∷ ts) = max t.wait (longest_wait ts)

-- run line by line the steps of a wavelet come to its synthesis and to its analysis
abbrev pub SynthesisByLines : Type 0
SynthesisByLines =
    (wavelet m : ℕ) (xs : List ℤ) → IsWavelet wavelet → length xs % 2 ≡ 0
    → length xs / 2 + longest_wait (timed (steps_of wavelet)) ≤ m
    → turns (timed (steps_of wavelet)) m xs ≡ synth wavelet xs

abbrev pub AnalysisByLines : Type 0
AnalysisByLines =
    (wavelet m : ℕ) (xs : List ℤ) → IsWavelet wavelet → length xs % 2 ≡ 0
    → length xs / 2 + longest_wait (timed (taken_back (steps_of wavelet))) ≤ m
    → turns (timed (taken_back (steps_of wavelet))) m xs ≡ analyse wavelet xs

-- and a line is finished as soon as all steps have gone over it
abbrev pub LinesFinish : Type 0
LinesFinish =
    (wavelet m p : ℕ) (xs : List ℤ) → IsWavelet wavelet → length xs % 2 ≡ 0
    → p / 2 + longest_wait (timed (steps_of wavelet)) < m
    → slice_index_or (turns (timed (steps_of wavelet)) m xs) p (pos 0) ≡ slice_index_or (synth wavelet xs) p (pos 0)
