use Rattle.std.proofs.Common.{◌/◌, ◌<◌, arith}
use Rattle.std.proofs.lemmas.Nat.{div_below}
use Rattle.dirac_decide.proofs.best.candidate.Goals as goal

pub overflow_add-unit : goal.overflow_add-unit
overflow_add-unit c = omega arith

pub overflow_add-unit-2 : goal.overflow_add-unit-2
overflow_add-unit-2 c =
    let row : c.args.k / c.args.unit.size < c.args.unit.size = div_below c.args.k c.args.unit.size c.args.unit.size (omega arith) (omega arith) in
    omega arith
