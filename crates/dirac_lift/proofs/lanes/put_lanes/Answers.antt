use Rattle.dirac_lift.proofs.LaneLemmas.{run_of_lanes}
use Rattle.dirac_lift.proofs.lanes.put_lanes.Goals as goal

pub returns : goal.returns
returns c = run_of_lanes c.args.at c.args.values.now c.args.lanes c.requires.inside c.requires.lanes
