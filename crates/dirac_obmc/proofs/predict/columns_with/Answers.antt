use Rattle.std.proofs.Common.{subst}
use Rattle.dirac_obmc.specs.declared.direction.Direction.{Direction}
use Rattle.dirac_obmc.specs.Directions.{IsWeights}
use Rattle.dirac_obmc.proofs.predict.columns_with.Goals as goal

pub returns : goal.returns
returns c = record {
  direction = c.across.ensures.direction;
  weights = subst (λ (d : Direction). IsWeights d.count d.length d.separation c.as_slice.result.now) c.requires.weights c.as_slice.ensures;
}
