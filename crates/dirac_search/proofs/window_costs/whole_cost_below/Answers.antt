use Rattle.std.proofs.Common.{ℕ, ◌+◌, subst}
use Rattle.dirac_search.specs.Costs.{StopsAt}
use Rattle.dirac_search.specs.Given.{searched_of}
use Rattle.dirac_search.proofs.Differences.{rows_whole}
use Rattle.dirac_search.proofs.window_costs.whole_cost_below.Goals as goal

pub returns : goal.returns
returns c =
    let t = c.args.tried in
    subst (λ (x : ℕ). StopsAt t.limit (t.first + x) c.whole_below.result)
    (rows_whole (searched_of c.args.search.now) c.args.level t.window t.v c.level.result.now c.level-2.result.now c.level.ensures.value c.level-2.ensures.value)
    c.whole_below.ensures
