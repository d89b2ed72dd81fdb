use Rattle.std.proofs.Common.{length}
use Rattle.dirac_pardec.proofs.front.units_from.Given as goal

abbrev pub decreases-units : goal.decreases-units
decreases-units l = length l.rest
