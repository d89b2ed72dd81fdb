-- Lists of steps over halves of lines, and when 32 bits are enough for them.
use Rattle.std.specs.Prelude.{◌≡◌, ℕ, ℤ, Bool, true, ◌&&◌, nat_le, ◌-◌, ◌*◌, ◌^◌, ◌<◌, ◌≤◌, ◌==◌, List, [], ◌∷◌, length}
use Rattle.std.specs.Prelude.{unsigned_abs, if◌then◌else◌}
use Rattle.std.specs.List.{All, sum_by}
use Rattle.dirac_lift.specs.Halves.{AreHalvesOfLine}
use Rattle.dirac_lift.specs.Level.{column}
use Rattle.dirac_lift.specs.Lifting.{Step, grown_by_step}
use Rattle.dirac_lift.specs.Wavelets.{run, steps_of}

-- how large values at even and at odd places become by a step
abbrev pub after_step : Step → ℕ × ℕ → ℕ × ℕ
after_step s (evens, odds) =
    if s.parity == 0 then (grown_by_step s evens odds, odds) else (evens, grown_by_step s odds evens)

-- how large they become by all steps
abbrev pub after_steps : List Step → ℕ × ℕ → ℕ × ℕ
after_steps [] most = most
after_steps (s ∷ ss) most = after_steps ss (after_step s most)

-- whether values that are at most so large can take a step in 32 bits: the places that it changes, and those that it
-- reads
abbrev pub is_narrow : Step → ℕ → ℕ → Bool
is_narrow s changed read =
    nat_le s.shift 12 && (nat_le changed (2 ^ 21) && nat_le (sum_by unsigned_abs s.taps * read) (2 ^ 31 - 2 ^ 22))

-- whether they can take all steps, and the last halving
abbrev pub stays_narrow : List Step → ℕ × ℕ → Bool
stays_narrow [] most = nat_le most.0 (2 ^ 31 - 2 ^ 22) && nat_le most.1 (2 ^ 31 - 2 ^ 22)
stays_narrow (s ∷ ss) most =
    (if s.parity == 0 then is_narrow s most.0 most.1 else (nat_le s.parity 1 && is_narrow s most.1 most.0))
    && stays_narrow ss (after_step s most)

-- the halves of w lines, whose values can take all steps
pub record AreNarrow (ss : List Step) (w h : ℕ) (evens odds : List ℤ) : Type 0 where
  pub some : 0 < w
  pub evens_len : length evens ≡ w * h
  pub odds_len : length odds ≡ w * h
  pub most : ℕ × ℕ
  pub even_bound : All (λ v. unsigned_abs v ≤ most.0) evens
  pub odd_bound : All (λ v. unsigned_abs v ≤ most.1) odds
  pub test : stays_narrow ss most ≡ true

-- what becomes of the halves of w lines by steps
pub record HalvesRun (ss : List Step) (w h : ℕ) (evens odds new_evens new_odds : List ℤ) : Type 0 where
  pub evens_len : length new_evens ≡ length evens
  pub odds_len : length new_odds ≡ length odds
  pub each : (x : ℕ) (line : List ℤ) → x < w → AreHalvesOfLine 0 (column evens w h x) (column odds w h x) line
      → AreHalvesOfLine 0 (column new_evens w h x) (column new_odds w h x) (run ss line)
  pub grow : (most : ℕ × ℕ) → All (λ v. unsigned_abs v ≤ most.0) evens → All (λ v. unsigned_abs v ≤ most.1) odds
      → All (λ v. unsigned_abs v ≤ (after_steps ss most).0) new_evens
      × All (λ v. unsigned_abs v ≤ (after_steps ss most).1) new_odds

-- a line whose values can take all steps of a wavelet, all of them within one bound
pub record IsNarrowLine (wavelet : ℕ) (line : List ℤ) : Type 0 where
  pub most : ℕ
  pub bound : All (λ v. unsigned_abs v ≤ most) line
  pub test : stays_narrow (steps_of wavelet) (most, most) ≡ true
