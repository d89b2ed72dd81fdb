use Rattle.std.specs.Prelude.{◌≡◌, ◌++◌}
use Rattle.dirac_search.specs.ByRows.{row_values}
use Rattle.dirac_search.specs.Given.{lent}
use Rattle.dirac_search.specs.Staged.{best_at}
use Rattle.dirac_search.proofs.stages.push_block_row.Given as goal

abbrev pub invariant-loop-i : goal.invariant-loop-i
invariant-loop-i l = l.vectors.items ≡ l.initial.vectors.items ++ row_values l.i (best_at l.staged (lent l.before)) l.j
