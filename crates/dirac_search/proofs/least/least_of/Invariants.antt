use Rattle.std.proofs.Common.{◌≡◌, take}
use Rattle.dirac_costs.specs.Least.{first_least}
use Rattle.dirac_search.specs.Candidates.{no_motion}
use Rattle.dirac_search.specs.Staged.{cost_at}
use Rattle.dirac_search.proofs.least.least_of.Given as goal

abbrev pub invariant-loop-k : goal.invariant-loop-k
invariant-loop-k l = record {
  found : l.found ≡ first_least (cost_at l.staged l.window) no_motion (take l.k l.list);
  least : l.least ≡ cost_at l.staged l.window l.found;
}
