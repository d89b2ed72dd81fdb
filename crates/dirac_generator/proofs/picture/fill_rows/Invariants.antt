use Rattle.std.proofs.Common.{◌≡◌, ◌<◌, ◌/◌, ◌%◌, ℕ, slice_index_or}
use Rattle.dirac_generator.specs.Generated.{generated_byte}
use Rattle.dirac_generator.proofs.picture.fill_rows.Given as goal

abbrev pub invariant-bytes : goal.invariant-bytes
invariant-bytes l = (k : ℕ) → k < l.place → slice_index_or l.bytes k 0 ≡ generated_byte l.number l.plane (k % l.width) (k / l.width)
