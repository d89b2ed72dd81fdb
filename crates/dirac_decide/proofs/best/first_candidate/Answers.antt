use Rattle.std.proofs.Common.{arith}
use Rattle.dirac_decide.specs.Given.{deciding_of, view_of}
use Rattle.dirac_decide.proofs.Candidates.{best_first}
use Rattle.dirac_decide.proofs.best.first_candidate.Goals as goal

pub returns : goal.returns
returns c =
    best_first (deciding_of c.args.inputs.now) (view_of c.args.view.now) c.args.unit _ c.candidate-vector.ensures.value
    (c.vector_cost_below-cost.ensures.told.below (omega (arith, c.vector_cost_below-cost.ensures.at_most_2_29))) c.candidate-vector.ensures.of_16_bits c.vector_cost_below-cost.ensures.at_most_2_29
