-- That no sum of a list of steps leaves the range of the numbers that it's worked out in.
use Rattle.std.specs.Prelude.{ℤ, ◌^◌, ◌≤◌, List, [], ◌∷◌, unsigned_abs}
use Rattle.std.specs.List.{sum_by}
use Rattle.dirac_lift.specs.Lifting.{Step, lift, PlacesWithin}

-- a step's shift and taps are small
abbrev pub IsFit : Step → Type 0
IsFit s = (s.parity ≤ 1) × (s.shift ≤ 32) × (sum_by unsigned_abs s.taps ≤ 2 ^ 14)

-- before each step all values are small
abbrev pub Safe : List Step → List ℤ → Type 0
Safe [] xs = Unit {0}
Safe (s ∷ ss) xs = IsFit s × PlacesWithin (2 ^ 112) 0 xs × PlacesWithin (2 ^ 112) 1 xs × Safe ss (lift s xs)

-- all steps are
abbrev pub AreFit : List Step → Type 0
AreFit [] = Unit {0}
AreFit (s ∷ ss) = IsFit s × AreFit ss
