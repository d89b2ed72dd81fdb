use Rattle.std.proofs.Common.{◌≡◌, ◌*◌, ◌<◌, ℕ, pos, slice_index_or}
use Rattle.dirac_bands.specs.Interleaving.{interleaved_at}
use Rattle.dirac_bands.proofs.interleaving.interleave.Given as goal

abbrev pub invariant-loop-n : goal.invariant-loop-n
invariant-loop-n l = (x : ℕ) → x < 2 * l.n → slice_index_or l.line x (pos 0) ≡ interleaved_at l.even l.odd x
