use Rattle.dirac_search.specs.Rows.{apart_at}
use Rattle.dirac_search.proofs.InLanes.{LanesAt}
use Rattle.dirac_search.proofs.eight_columns.add_eight.Given as goal

abbrev pub invariant-loop-k : goal.invariant-loop-k
invariant-loop-k l = LanesAt l.lanes l.initial.lanes (apart_at l.a l.first l.b l.second) l.k
