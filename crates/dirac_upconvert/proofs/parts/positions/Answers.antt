use Rattle.std.proofs.Common.{arith}
use Rattle.dirac_upconvert.proofs.Mixing.{power_is}
use Rattle.dirac_upconvert.proofs.parts.positions.Goals as goal

pub returns : goal.returns
returns c = power_is c.args.bits (omega arith)
