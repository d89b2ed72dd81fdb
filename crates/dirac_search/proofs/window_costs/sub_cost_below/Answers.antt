use Rattle.std.proofs.Common.{ℕ, ◌+◌, ap, subst, sym}
use Rattle.dirac_common.specs.Table.{Table}
use Rattle.dirac_search.specs.Costs.{StopsAt}
use Rattle.dirac_search.specs.Given.{searched_of, lent}
use Rattle.dirac_search.specs.InBytes.{AreBytes, AreGiven}
use Rattle.dirac_search.proofs.Differences.{rows_sub}
use Rattle.dirac_search.proofs.window_costs.sub_cost_below.Goals as goal

pub returns-in-Some : goal.returns-in-Some
returns-in-Some c =
    let t = c.args.tried in
    subst (λ (x : ℕ). StopsAt t.limit (t.first + x) c.sub_below_in_bytes.result)
    (rows_sub (searched_of c.args.staged.now.search.now) c.args.precision t.window t.v c.level-source.result.now c.level-source.ensures.value)
    c.sub_below_in_bytes.ensures

pub returns-in-None : goal.returns-in-None
returns-in-None c =
    let t = c.args.tried in
    subst (λ (x : ℕ). StopsAt t.limit (t.first + x) c.sub_below.result)
    (rows_sub (searched_of c.args.staged.now.search.now) c.args.precision t.window t.v c.level-source.result.now c.level-source.ensures.value)
    c.sub_below.ensures

pub sub_below_in_bytes-requires-clause-bytes : goal.sub_below_in_bytes-requires-clause-bytes
sub_below_in_bytes-requires-clause-bytes c =
    let g = searched_of c.args.staged.now.search.now in
    subst (λ (t : Table). AreBytes t c.in-Some.bytes.now) (sym c.level-source.ensures.value) (subst (AreGiven g) (ap lent c.in-Some.is) c.requires.bytes)
