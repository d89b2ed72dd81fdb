use Rattle.dirac_lift.proofs.Signed.{rounded_is}
use Rattle.dirac_lift.proofs.step.rounded_sum.Goals as goal

pub returns-clause-value : goal.returns-clause-value
returns-clause-value c = rounded_is c.args.sum c.args.shift c.requires.shift c.requires.sum
