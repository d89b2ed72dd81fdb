use Rattle.std.proofs.Common.{◌≡◌, ℕ, pos, ◌<◌, slice_index_or}
use Rattle.dirac_obmc.specs.Compensation.{from_two}
use Rattle.dirac_obmc.proofs.values.weigh_two.Given as goal

abbrev pub invariant-loop-k : goal.invariant-loop-k
invariant-loop-k l =
    (k : ℕ) → k < l.k → slice_index_or l.out k (pos 0) ≡ from_two l.p (slice_index_or l.first k (pos 0)) (slice_index_or l.second k (pos 0))
