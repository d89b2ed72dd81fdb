use Rattle.std.proofs.Common.{◌+◌, slice_index}
use Rattle.dirac_obmc.specs.Adding.{PutWeights}
use Rattle.dirac_obmc.proofs.rows.copy_weights.Given as goal

abbrev pub invariant-loop-k : goal.invariant-loop-k
invariant-loop-k l = PutWeights l.at l.k (λ k. slice_index l.weights (l.first + k)) l.initial.out l.out
