use Rattle.std.proofs.Common.{arith}
use Rattle.dirac_decide.proofs.inside.costed.Goals as goal

pub returns-clause-costed : goal.returns-clause-costed
returns-clause-costed c = record {
  cost = c.vector_cost_below-cost.ensures.told.below (omega (arith, c.vector_cost_below-cost.ensures.at_most_2_29));
  of_16_bits = c.requires.vector;
  at_most = c.vector_cost_below-cost.ensures.at_most_2_29;
}
