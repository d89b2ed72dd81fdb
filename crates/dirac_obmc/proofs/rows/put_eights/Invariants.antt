use Rattle.dirac_obmc.specs.Adding.{PutWeights}
use Rattle.dirac_obmc.proofs.rows.put_eights.Given as goal

abbrev pub invariant-loop-k : goal.invariant-loop-k
invariant-loop-k l = PutWeights l.at l.k (λ k. 8) l.initial.out l.out
