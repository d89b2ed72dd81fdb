use Rattle.std.proofs.Common.{◌≡◌, ◌+◌, ◌*◌, ◌++◌}
use Rattle.dirac_search.specs.ByRows.{listed_by_rows}
use Rattle.dirac_search.specs.Candidates.{near}
use Rattle.dirac_search.proofs.around.push_around.Given as goal

abbrev pub invariant-loop-y : goal.invariant-loop-y
invariant-loop-y l = l.list ≡ l.initial.list ++ listed_by_rows (2 * l.reach + 1) l.y (near l.centre l.reach)
