use Rattle.std.proofs.Common.{arith, sym}
use Rattle.dirac_arith.proofs.Doublings.{doubles_by_place, place_at_most}
use Rattle.dirac_arith.proofs.registers.doublings.Goals as goal

pub returns-clause-least : goal.returns-clause-least
returns-clause-least c =
    let found = doubles_by_place c.args.range (omega arith) (omega arith) in
    sym found.exact

pub returns-clause-at_most_9 : goal.returns-clause-at_most_9
returns-clause-at_most_9 c =
    let found = doubles_by_place c.args.range (omega arith) (omega arith) in
    let few = found.few (omega arith) in
    omega arith

pub overflow_sub-result-2 : goal.overflow_sub-result-2
overflow_sub-result-2 c = place_at_most c.args.range (omega arith) (omega arith)
