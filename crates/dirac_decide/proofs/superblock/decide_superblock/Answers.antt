use Rattle.std.proofs.Common.{◌≡◌, arith}
use Rattle.dirac_decide.specs.Given.{deciding_of}
use Rattle.dirac_decide.specs.Splits.{split_cost}
use Rattle.dirac_decide.proofs.Superblocks.{best_is}
use Rattle.dirac_decide.proofs.Threes.{first_stays, second_stays, third_after_first, third_after_second}
use Rattle.dirac_decide.proofs.superblock.decide_superblock.Goals as goal

pub taken-requires-clause-best : goal.taken-requires-clause-best
taken-requires-clause-best c =
    let d = deciding_of c.args.inputs.now in
    let f = split_cost d c.args.sx c.args.sy in
    let one : c.cost_of_split-one.result ≡ f 0 = c.cost_of_split-one.ensures.told.below (omega (arith, c.cost_of_split-one.ensures.at_most_2_33)) in
    best_is d c.args.sx c.args.sy 2 (third_after_second f c.cost_of_split-one.result c.cost_of_split-four.result c.cost_of_split-sixteen.result one c.cost_of_split-four.ensures.told (omega arith) c.cost_of_split-sixteen.ensures.told (omega arith))

pub taken-requires-else-sixteen-four-clause-best : goal.taken-requires-else-sixteen-four-clause-best
taken-requires-else-sixteen-four-clause-best c =
    let d = deciding_of c.args.inputs.now in
    let f = split_cost d c.args.sx c.args.sy in
    let one : c.cost_of_split-one.result ≡ f 0 = c.cost_of_split-one.ensures.told.below (omega (arith, c.cost_of_split-one.ensures.at_most_2_33)) in
    best_is d c.args.sx c.args.sy 1 (second_stays f c.cost_of_split-one.result c.cost_of_split-four.result c.cost_of_split-sixteen.result one c.cost_of_split-four.ensures.told (omega arith) c.cost_of_split-sixteen.ensures.told (omega arith))

pub taken-requires-then-sixteen-one-clause-best : goal.taken-requires-then-sixteen-one-clause-best
taken-requires-then-sixteen-one-clause-best c =
    let d = deciding_of c.args.inputs.now in
    let f = split_cost d c.args.sx c.args.sy in
    let one : c.cost_of_split-one.result ≡ f 0 = c.cost_of_split-one.ensures.told.below (omega (arith, c.cost_of_split-one.ensures.at_most_2_33)) in
    best_is d c.args.sx c.args.sy 2 (third_after_first f c.cost_of_split-one.result c.cost_of_split-four.result c.cost_of_split-sixteen-else-four-one.result one c.cost_of_split-four.ensures.told (omega arith) c.cost_of_split-sixteen-else-four-one.ensures.told (omega arith))

pub taken-requires-else-sixteen-one-clause-best : goal.taken-requires-else-sixteen-one-clause-best
taken-requires-else-sixteen-one-clause-best c =
    let d = deciding_of c.args.inputs.now in
    let f = split_cost d c.args.sx c.args.sy in
    let one : c.cost_of_split-one.result ≡ f 0 = c.cost_of_split-one.ensures.told.below (omega (arith, c.cost_of_split-one.ensures.at_most_2_33)) in
    best_is d c.args.sx c.args.sy 0 (first_stays f c.cost_of_split-one.result c.cost_of_split-four.result c.cost_of_split-sixteen-else-four-one.result one c.cost_of_split-four.ensures.told (omega arith) c.cost_of_split-sixteen-else-four-one.ensures.told (omega arith))
