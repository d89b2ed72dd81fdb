-- A line of six pairs and a window of four of them, computed by hand: the LeGall synthesis.
use Rattle.std.proofs.Common.{◌≡◌, ℤ, [], ◌∷◌, pos, negsuc, refl, List}
use Rattle.dirac_lift.specs.Lifting.{lift}
use Rattle.dirac_lift.specs.Wavelets.{synth}
use Rattle.dirac_lift.specs.Windows.{window_half}

line : List ℤ
line = pos 10 ∷ pos 4 ∷ pos 12 ∷ pos 8 ∷ pos 20 ∷ pos 0 ∷ pos 16 ∷ negsuc 3 ∷ pos 8 ∷ pos 12 ∷ pos 24 ∷ pos 4 ∷ []

whole : synth 1 line ≡ pos 8 ∷ pos 13 ∷ pos 9 ∷ pos 22 ∷ pos 18 ∷ pos 18 ∷ pos 17 ∷ pos 8 ∷ pos 6 ∷ pos 25 ∷ pos 20 ∷ pos 24 ∷ []
unfolding line synth lift
whole = refl

-- pairs 1 .. 5: in the middle 18, 18, 17 and 8 as above, at the ends other values
part : synth 1 (window_half 2 1 5 line) ≡ pos 8 ∷ pos 21 ∷ pos 18 ∷ pos 18 ∷ pos 17 ∷ pos 8 ∷ pos 6 ∷ pos 18 ∷ []
unfolding line synth lift
part = refl
