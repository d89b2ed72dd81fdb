use Rattle.std.proofs.Common.{length}
use Rattle.dirac_pardec.proofs.lot.intra_units.Given as goal

abbrev pub decreases-units : goal.decreases-units
decreases-units l = length l.rest
