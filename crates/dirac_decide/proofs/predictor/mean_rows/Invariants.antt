use Rattle.std.proofs.Common.{◌≡◌, ℕ, pos, ◌≤◌, length, slice_index_or}
use Rattle.std.specs.List.{All}
use Rattle.dirac_upconvert.specs.HalfSamples.{IsSample}
use Rattle.dirac_decide.specs.Predictors.{RowIs, mean_in}
use Rattle.dirac_decide.proofs.predictor.mean_rows.Given as goal

abbrev pub invariant-loop-k : goal.invariant-loop-k
invariant-loop-k l = record {
  len : length l.first ≡ length l.second;
  samples : All IsSample l.first;
  done : RowIs (mean_in l.initial.first l.second) l.k l.first;
  rest : (k : ℕ) → l.k ≤ k → slice_index_or l.first k (pos 0) ≡ slice_index_or l.initial.first k (pos 0);
}
