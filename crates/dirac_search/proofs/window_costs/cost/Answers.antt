use Rattle.std.proofs.Common.{arith}
use Rattle.dirac_search.proofs.Compared.{compared_at, level_at}
use Rattle.dirac_search.proofs.window_costs.cost.Goals as goal

pub window-requires-clause-level : goal.window-requires-clause-level
window-requires-clause-level c = level_at _ _ _ c.requires.search c.requires.stage

pub window-requires-clause-column : goal.window-requires-clause-column
window-requires-clause-column c = omega (arith, c.requires.column, c.requires.search.across)

pub window-requires-clause-row : goal.window-requires-clause-row
window-requires-clause-row c = omega (arith, c.requires.row, c.requires.search.down)

pub whole_cost-requires-clause-compared : goal.whole_cost-requires-clause-compared
whole_cost-requires-clause-compared c = compared_at _ c.window.result c.requires.search c.requires.stage tt c.window.ensures.within
