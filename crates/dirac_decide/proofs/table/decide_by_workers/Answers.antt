use Rattle.dirac_decide.proofs.Accepted.{workers_within}
use Rattle.dirac_decide.proofs.table.decide_by_workers.Goals as goal

pub rows_by_workers-requires-clause-workers : goal.rows_by_workers-requires-clause-workers
rows_by_workers-requires-clause-workers g c κs within = workers_within c.args.settings.now c.requires.settings
