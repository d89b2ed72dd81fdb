use Rattle.std.proofs.Common.{ap, arith}
use Rattle.dirac_decide.specs.Given.{deciding_of, view_of}
use Rattle.dirac_decide.specs.Units.{vector_cost}
use Rattle.dirac_decide.proofs.Insides.{best_stays, best_taken}
use Rattle.dirac_decide.proofs.inside.better.Goals as goal

pub returns-then-is_same : goal.returns-then-is_same
returns-then-is_same c = λ vs is.
    let d = deciding_of c.args.inputs.now in
    let r = view_of c.args.view.now in
    let u = c.args.unit in
    let same = ap (vector_cost d r u) (c.is_same.ensures c.if-is_same.true) in
    best_stays d r u vs c.args.vector c.args.best is (omega (arith, is.costed.cost, same))

pub returns-then-cost-best : goal.returns-then-cost-best
returns-then-cost-best c = λ vs is.
    let d = deciding_of c.args.inputs.now in
    let r = view_of c.args.view.now in
    let u = c.args.unit in
    best_taken d r u vs c.args.best _ is
    (record { cost = c.vector_cost_below-cost.ensures.told.below (omega arith); of_16_bits = c.requires.vector; at_most = c.vector_cost_below-cost.ensures.at_most_2_29 })
    (omega arith)

pub returns-else-cost-best : goal.returns-else-cost-best
returns-else-cost-best c = λ vs is.
    let d = deciding_of c.args.inputs.now in
    let r = view_of c.args.view.now in
    let u = c.args.unit in
    best_stays d r u vs c.args.vector c.args.best is (c.vector_cost_below-cost.ensures.told.above (omega arith))
