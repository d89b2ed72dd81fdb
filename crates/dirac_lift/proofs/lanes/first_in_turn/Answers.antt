use Rattle.dirac_lift.proofs.LaneLemmas.{four_in_turn}
use Rattle.std.proofs.Common.{arith}
use Rattle.dirac_lift.proofs.lanes.first_in_turn.Goals as goal

pub returns : goal.returns
returns c = four_in_turn c.args.evens c.args.odds 0 c.requires.lanes.0 c.requires.lanes.1 (omega arith)
