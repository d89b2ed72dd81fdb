-- Which decisions a block carries.
use Rattle.std.specs.Prelude.{ℕ, ◌+◌, ◌<◌, ◌≤◌, nat_le, nat_lt, Bool, ◌&&◌, List, [], ◌∷◌}
use Rattle.dirac_arith.specs.Front.{front}
use Rattle.dirac_arith.specs.Interval.{Decision, Interval, interval_of}

-- the front of the block lies in the interval
pub record Lies (block : List ℕ) (s : Interval) : Type 0 where
  pub above : s.low ≤ front block (16 + s.doublings)
  pub below : front block (16 + s.doublings) < s.low + s.range

-- whether it does
abbrev pub lies_in : List ℕ → Interval → Bool
lies_in block s =
    nat_le s.low (front block (16 + s.doublings)) && nat_lt (front block (16 + s.doublings)) (s.low + s.range)

-- a block carries decisions where its front lies in their interval; no decision needs no block
abbrev pub Carries : List ℕ → List Decision → Type 0
Carries block [] = Unit {0}
Carries block (d ∷ ds) = Lies block (interval_of (d ∷ ds))
