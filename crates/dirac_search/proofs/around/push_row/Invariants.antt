use Rattle.std.proofs.Common.{◌≡◌, ◌++◌}
use Rattle.dirac_search.specs.ByRows.{row_values}
use Rattle.dirac_search.specs.Candidates.{near}
use Rattle.dirac_search.proofs.around.push_row.Given as goal

abbrev pub invariant-loop-x : goal.invariant-loop-x
invariant-loop-x l = l.list ≡ l.initial.list ++ row_values l.x (near l.centre l.reach) l.y
