use Rattle.std.proofs.Common.{◌<◌, ◌^◌, length}
use Rattle.dirac_edit.proofs.Beginning.{Completes}
use Rattle.dirac_edit.proofs.units.units_of.Given as goal

abbrev pub invariant-units : goal.invariant-units
invariant-units l = record {
  completes : Completes l.fn.bytes l.units.items l.bytes;
  below : length l.bytes < 2 ^ 63;
}

abbrev pub decreases-units : goal.decreases-units
decreases-units l = length l.bytes
