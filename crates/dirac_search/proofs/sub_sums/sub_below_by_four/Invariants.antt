use Rattle.std.proofs.Common.{◌+◌, ◌*◌}
use Rattle.dirac_search.specs.Rows.{sub_row_apart}
use Rattle.dirac_search.proofs.Stopping.{SumsTo}
use Rattle.dirac_search.proofs.sub_sums.sub_below_by_four.Given as goal

abbrev pub invariant-fours : goal.invariant-fours
invariant-fours l =
    let t = l.fn.tried in
    SumsTo (λ r. sub_row_apart l.source l.up l.precision t.window.x (t.window.y + r) t.v t.window.columns) t.first 524280 (4 * l.k) l.sum
