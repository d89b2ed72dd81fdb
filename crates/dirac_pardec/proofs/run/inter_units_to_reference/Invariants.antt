use Rattle.std.proofs.Common.{length}
use Rattle.dirac_pardec.proofs.run.inter_units_to_reference.Given as goal

abbrev pub decreases-units : goal.decreases-units
decreases-units l = length l.rest
