use Rattle.std.proofs.Common.{◌≡◌, ◌≤◌, ◌+◌, ℕ, pos, length, slice_index_or}
use Rattle.dirac_upconvert.specs.SubSamples.{PutFrom}
use Rattle.dirac_upconvert.proofs.rows.put.Given as goal

abbrev pub invariant-loop-k : goal.invariant-loop-k
invariant-loop-k l = record {
  put : PutFrom l.first l.k (λ k. slice_index_or l.lanes k (pos 0)) l.initial.out l.out;
  behind : (k : ℕ) → l.first + length l.lanes ≤ k → slice_index_or l.out k (pos 0) ≡ slice_index_or l.initial.out k (pos 0);
}
