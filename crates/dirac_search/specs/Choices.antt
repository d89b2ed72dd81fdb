-- Lists among which the same is chosen.
use Rattle.std.specs.Prelude.{◌≡◌, ℕ, ◌<◌, List, slice_index_or}
use Rattle.dirac_common.specs.declared.formats.Vector.{Vector}
use Rattle.dirac_costs.specs.Least.{first_least}
use Rattle.dirac_search.specs.Candidates.{no_motion}

-- item k of a list is also an earlier one
abbrev pub Recurs : List Vector → ℕ → Type 0
Recurs xs k = (j : ℕ) × (j < k) × (slice_index_or xs j no_motion ≡ slice_index_or xs k no_motion)

-- behind the vector of no motion, the first of least cost is the same for every cost
abbrev pub ChoosesAs : List Vector → List Vector → Type 0
ChoosesAs xs ys = (cost : Vector → ℕ) → first_least cost no_motion xs ≡ first_least cost no_motion ys
