use Rattle.std.proofs.Common.{arith}
use Rattle.dirac_obmc.proofs.Runs.{zero_weights}
use Rattle.dirac_obmc.proofs.rows.clear_weights.Goals as goal

pub returns : goal.returns
returns c = zero_weights c.loop-k.out c.loop-k.k c.loop-k.invariant (omega arith)
