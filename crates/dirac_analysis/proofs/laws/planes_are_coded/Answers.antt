use Rattle.dirac_analysis.proofs.Fitting.{planes_fit}
use Rattle.dirac_analysis.proofs.Undone.{planes_kept}
use Rattle.dirac_analysis.proofs.laws.planes_are_coded.Goals as goal

pub returns : goal.returns
returns c = record { fits = planes_fit; kept = planes_kept }
