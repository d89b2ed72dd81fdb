use Rattle.std.proofs.Common.{◌+◌}
use Rattle.dirac_search.specs.Rows.{whole_row_apart}
use Rattle.dirac_search.proofs.Stopping.{SumsTo}
use Rattle.dirac_search.proofs.whole_sums.whole_below_by_rows.Given as goal

abbrev pub invariant-rows : goal.invariant-rows
invariant-rows l =
    let t = l.fn.tried in
    SumsTo (λ r. whole_row_apart l.source l.reference t.window.x (t.window.y + r) t.v t.window.columns) t.first 1048560 l.k l.sum
