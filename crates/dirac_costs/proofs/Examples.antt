-- Worked values.
use Rattle.std.proofs.Common.{◌≡◌, pos, negsuc, [], ◌∷◌, refl}
use Rattle.dirac_costs.specs.Least.{first_least}
use Rattle.dirac_costs.specs.Windows.{mean_over}

-- the mean of -1 and 0 is 0
mean_of_two : mean_over (record { width = 2; height = 1; values = negsuc 0 ∷ pos 0 ∷ [] }) (record { x = 0; y = 0; columns = 2; rows = 1 }) ≡ pos 0
mean_of_two = refl

-- of equal costs the first is taken
first_of_two : first_least (λ n. n) 3 (2 ∷ 4 ∷ 2 ∷ []) ≡ 2
first_of_two = refl
