use Rattle.std.proofs.Common.{pos, slice_index_or}
use Rattle.dirac_upconvert.specs.SubSamples.{PutFrom}
use Rattle.dirac_upconvert.proofs.lines.put_narrowed.Given as goal

abbrev pub invariant-loop-k : goal.invariant-loop-k
invariant-loop-k l = PutFrom l.first l.k (λ k. slice_index_or l.samples k (pos 0)) l.initial.out l.out
