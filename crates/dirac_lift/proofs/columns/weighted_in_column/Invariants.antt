use Rattle.std.proofs.Common.{◌≡◌}
use Rattle.dirac_lift.specs.Level.{column}
use Rattle.dirac_lift.specs.Lifting.{value_read, weighted}
use Rattle.dirac_lift.proofs.columns.weighted_in_column.Given as goal

abbrev pub invariant-loop-k : goal.invariant-loop-k
invariant-loop-k l = l.sum ≡ weighted l.taps (value_read l.step.parity l.step.lead (column l.values l.width l.height l.x) l.n) l.k
