use Rattle.std.proofs.Common.{◌≡◌, ◌<◌, ℕ, pos, slice_index, slice_index_or}
use Rattle.dirac_content.specs.Raw.{byte_of}
use Rattle.dirac_content.proofs.written.put_bytes.Given as goal

abbrev pub invariant-loop-i : goal.invariant-loop-i
invariant-loop-i l = (k : ℕ) → k < l.i → slice_index l.bytes k ≡ byte_of (slice_index_or l.samples k (pos 0))
