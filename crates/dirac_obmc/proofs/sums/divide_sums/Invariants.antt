use Rattle.dirac_obmc.proofs.AddLemmas.{Divided}
use Rattle.dirac_obmc.proofs.sums.divide_sums.Given as goal

abbrev pub invariant-loop-x : goal.invariant-loop-x
invariant-loop-x l = Divided l.x l.initial.sums l.sums
