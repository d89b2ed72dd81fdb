use Rattle.std.proofs.Common.{arith}
use Rattle.dirac_synthesis.proofs.last.pairs_for.Goals as goal

pub returns : goal.returns
returns c = record {
  some = omega arith;
  down = omega arith;
  ordered = omega arith;
  first = omega arith;
  last = omega arith;
  above = λ some. omega (arith, some, c.margin-margin.ensures.value);
  below = λ some. omega (arith, some, c.margin-margin.ensures.value);
}
