use Rattle.dirac_upconvert.proofs.Mixing.{rounded_is}
use Rattle.dirac_upconvert.proofs.parts.rounded_sum.Goals as goal

pub returns : goal.returns
returns c = rounded_is c.args.sum c.args.bits c.requires.bits c.requires.sum
