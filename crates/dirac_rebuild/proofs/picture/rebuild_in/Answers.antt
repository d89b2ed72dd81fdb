use Rattle.dirac_rebuild.proofs.Pictures.{picture_fits}
use Rattle.dirac_rebuild.proofs.picture.rebuild_in.Goals as goal

pub returns-clause-fits : goal.returns-clause-fits
returns-clause-fits c = rw c.in_ok-picture.ensures (picture_fits c.args.sequence.now c.args.refs.now c.args.coded.now)
