use Rattle.std.specs.Prelude.{◌≡◌, ◌+◌, ◌*◌, option_map}
use Rattle.dirac_search.specs.ByRows.{listed_by_rows}
use Rattle.dirac_search.specs.Fields.{best_of}
use Rattle.dirac_search.specs.Given.{searched_of}
use Rattle.dirac_search.proofs.stages.rows_of.Given as goal

abbrev pub invariant-loop-k : goal.invariant-loop-k
invariant-loop-k l = l.vectors.items ≡ listed_by_rows (4 * l.staged.search.now.across) l.k (λ i j. best_of (searched_of l.staged.search.now) l.staged.settings.now l.staged.stage (option_map (λ f. f.now) l.before) i (4 * l.row + j))
