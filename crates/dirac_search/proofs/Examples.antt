-- On constant planes with bias 4 the vector (1, 0) costs 20 and the one of no motion 8.
use Rattle.std.proofs.Common.{◌≡◌, pos, negsuc, ◌∷◌, [], refl}
use Rattle.dirac_common.specs.Numbers.{digits_of, digits_within}
use Rattle.dirac_common.specs.Table.{Table}
use Rattle.dirac_costs.specs.Least.{first_least}
use Rattle.dirac_search.specs.declared.stage.Stage.TheVariants as stage
use Rattle.dirac_search.specs.ByRows.{listed_by_rows}
use Rattle.dirac_search.specs.Candidates.{around, candidates_of, no_motion, vector}
use Rattle.dirac_search.specs.Costs.{cost_of, difference, window_cost}
use Rattle.dirac_search.specs.Given.{Searched}
use Rattle.std.specs.Prelude.{None}

abbrev flat : Table
flat = record { width = 2; height = 1; values = pos 5 ∷ pos 5 ∷ [] }

abbrev flat_search : Searched
flat_search = record {
  source = flat ∷ [];
  reference = flat ∷ [];
  up = record { width = 2; height = 1; table = flat };
  grid = record { xblen = 2; yblen = 2; xbsep = 2; ybsep = 2 };
  across = 1;
  down = 1;
}

one_costs : cost_of flat_search 4 (stage.Coarse 0) 0 0 (vector (pos 1) (pos 0)) ≡ 20
unfolding window_cost difference digits_of digits_within
one_costs = refl

none_costs : cost_of flat_search 4 (stage.Coarse 0) 0 0 no_motion ≡ 8
unfolding window_cost difference digits_of digits_within
none_costs = refl

-- with bias 0 the first candidate is best
first_is_best : first_least (cost_of flat_search 0 (stage.Coarse 0) 0 0) no_motion (around no_motion 1) ≡ no_motion
unfolding window_cost difference digits_of digits_within listed_by_rows
first_is_best = refl

-- candidates go by rows, from the top left
in_order : candidates_of (stage.Coarse 0) 1 None 0 0 ≡
    no_motion
    ∷ vector (negsuc 0) (negsuc 0) ∷ vector (pos 0) (negsuc 0) ∷ vector (pos 1) (negsuc 0)
    ∷ vector (negsuc 0) (pos 0) ∷ vector (pos 0) (pos 0) ∷ vector (pos 1) (pos 0)
    ∷ vector (negsuc 0) (pos 1) ∷ vector (pos 0) (pos 1) ∷ vector (pos 1) (pos 1) ∷ []
unfolding listed_by_rows
in_order = refl
