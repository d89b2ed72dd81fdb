use Rattle.dirac_obmc.specs.Adding.{PutOver}
use Rattle.dirac_obmc.proofs.sums.put_sums.Given as goal

abbrev pub invariant-loop-k : goal.invariant-loop-k
invariant-loop-k l = PutOver l.place l.grown l.k l.initial.sums l.sums
