use Rattle.std.proofs.Common.{◌≡◌, ◌+◌, ◌*◌, ◌<◌, ℕ, pos, slice_index_or}
use Rattle.dirac_bands.proofs.interleaving.take_every_other.Given as goal

abbrev pub invariant-loop-n : goal.invariant-loop-n
invariant-loop-n l = (k : ℕ) → k < l.n → slice_index_or l.half k (pos 0) ≡ slice_index_or l.line (2 * k + l.first) (pos 0)
