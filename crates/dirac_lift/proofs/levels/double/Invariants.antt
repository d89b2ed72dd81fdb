use Rattle.dirac_lift.specs.Level.{doubled}
use Rattle.dirac_lift.proofs.MapLemmas.{MappedBelow}
use Rattle.dirac_lift.proofs.levels.double.Given as goal

abbrev pub invariant-loop-i : goal.invariant-loop-i
invariant-loop-i l = MappedBelow doubled l.fn.values l.values l.i
