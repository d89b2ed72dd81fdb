use Rattle.dirac_lift.specs.Level.{halved}
use Rattle.dirac_lift.proofs.MapLemmas.{MappedBelow}
use Rattle.dirac_lift.proofs.levels.halve.Given as goal

abbrev pub invariant-loop-i : goal.invariant-loop-i
invariant-loop-i l = MappedBelow halved l.fn.values l.values l.i
