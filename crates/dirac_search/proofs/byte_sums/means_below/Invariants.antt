use Rattle.dirac_search.specs.InBytes.{strided_means}
use Rattle.dirac_search.proofs.Stopping.{SumsTo}
use Rattle.dirac_search.proofs.byte_sums.means_below.Given as goal

abbrev pub invariant-rows : goal.invariant-rows
invariant-rows l = SumsTo (strided_means l.a l.left l.b l.corners l.step) l.tried.first 2040 l.k l.sum
