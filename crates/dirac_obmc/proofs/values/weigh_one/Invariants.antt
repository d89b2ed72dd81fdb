use Rattle.std.proofs.Common.{◌≡◌, ℕ, pos, ◌<◌, slice_index_or}
use Rattle.dirac_obmc.specs.Compensation.{from_one}
use Rattle.dirac_obmc.proofs.values.weigh_one.Given as goal

abbrev pub invariant-loop-k : goal.invariant-loop-k
invariant-loop-k l = (k : ℕ) → k < l.k → slice_index_or l.out k (pos 0) ≡ from_one l.p (slice_index_or l.samples k (pos 0))
