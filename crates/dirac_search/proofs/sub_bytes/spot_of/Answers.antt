use Rattle.std.proofs.Common.{arith}
use Rattle.dirac_search.proofs.HeldRows.{spot_one, spot_two}
use Rattle.dirac_search.proofs.sub_bytes.spot_of.Goals as goal

pub returns-then-precision-eq1-clause-spot : goal.returns-then-precision-eq1-clause-spot
returns-then-precision-eq1-clause-spot c = spot_one _ c.args.position c.if-precision-eq1.true

pub returns-else-precision-eq1-clause-spot : goal.returns-else-precision-eq1-clause-spot
returns-else-precision-eq1-clause-spot c = spot_two _ c.args.position (omega (arith, c.requires.precision, c.if-precision-eq1.false))
