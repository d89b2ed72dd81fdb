use Rattle.dirac_types.proofs.Accepted.{in_range}
use Rattle.dirac_motion.proofs.search.vectors_in_both.Goals as goal

pub vectors_in-requires-clause-workers : goal.vectors_in-requires-clause-workers
vectors_in-requires-clause-workers g c κs within = (in_range c.args.searched.settings.now c.requires.accepted).workers

pub vectors_in-requires-2-clause-workers : goal.vectors_in-requires-2-clause-workers
vectors_in-requires-2-clause-workers g c κs within = (in_range c.args.searched.settings.now c.requires.accepted).workers
