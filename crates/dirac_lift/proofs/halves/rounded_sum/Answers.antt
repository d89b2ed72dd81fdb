use Rattle.dirac_lift.proofs.HalfLemmas.{rounded_is, rounded_small}
use Rattle.dirac_lift.proofs.halves.rounded_sum.Goals as goal

pub returns-clause-value : goal.returns-clause-value
returns-clause-value c = rounded_is c.args.sum c.args.shift c.requires.shift c.requires.sum

pub returns-clause-bound : goal.returns-clause-bound
returns-clause-bound c = rw (rounded_is c.args.sum c.args.shift c.requires.shift c.requires.sum) (rounded_small c.args.sum c.args.shift c.requires.shift c.requires.sum)
