use Rattle.dirac_lift.proofs.LaneLemmas.{bits_read, lanes_from}
use Rattle.dirac_lift.proofs.lanes.lanes_at.Goals as goal

pub returns : goal.returns
returns c = lanes_from _ _ (bits_read c.args.at c.args.values.now c.requires.inside c.requires.fit)
