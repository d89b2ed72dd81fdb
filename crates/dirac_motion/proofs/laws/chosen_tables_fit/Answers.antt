use Rattle.dirac_motion.proofs.Fitting.{chosen_fits}
use Rattle.dirac_motion.proofs.laws.chosen_tables_fit.Goals as goal

pub returns : goal.returns
returns c = chosen_fits
