use Rattle.std.proofs.Common.{ℕ, ◌<◌, pos, get_or}
use Rattle.dirac_upconvert.specs.HalfSamples.{IsSample}
use Rattle.dirac_search.proofs.bytes.are_samples.Given as goal

abbrev pub invariant-loop-k : goal.invariant-loop-k
invariant-loop-k l = (j : ℕ) → j < l.k → IsSample (get_or l.values j (pos 0))
