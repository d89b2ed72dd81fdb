use Rattle.dirac_search.specs.InBytes.{strided_rows}
use Rattle.dirac_search.proofs.Stopping.{SumsTo}
use Rattle.dirac_search.proofs.byte_sums.rows_below.Given as goal

abbrev pub invariant-rows : goal.invariant-rows
invariant-rows l = SumsTo (strided_rows l.a l.left l.b l.right) l.tried.first 2040 l.k l.sum
