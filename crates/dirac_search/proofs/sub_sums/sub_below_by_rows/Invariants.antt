use Rattle.std.proofs.Common.{◌≡◌, ◌+◌, length}
use Rattle.dirac_search.specs.Rows.{sub_row_apart}
use Rattle.dirac_search.proofs.Stopping.{SumsTo}
use Rattle.dirac_search.proofs.sub_sums.sub_below_by_rows.Given as goal

abbrev pub invariant-rows : goal.invariant-rows
invariant-rows l =
    let t = l.fn.tried in record {
      sums : SumsTo (λ r. sub_row_apart l.source l.up l.precision t.window.x (t.window.y + r) t.v t.window.columns) t.first 1048560 l.k l.sum;
      samples : length l.samples ≡ t.window.columns;
    }
