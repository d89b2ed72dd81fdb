use Rattle.std.proofs.Common.{◌≡◌, ◌<◌, ℕ, pos, slice_index_or}
use Rattle.dirac_synthesis.specs.Residual.{clip}
use Rattle.dirac_sources.specs.Sources.{sample_of}
use Rattle.dirac_sources.proofs.raw.fill_samples.Given as goal

abbrev pub invariant-loop-i : goal.invariant-loop-i
invariant-loop-i l = record {
  value : (k : ℕ) → k < l.i → slice_index_or l.samples k (pos 0) ≡ sample_of (slice_index_or l.bytes k 0);
  fits : (k : ℕ) → k < l.i → clip (slice_index_or l.samples k (pos 0)) ≡ slice_index_or l.samples k (pos 0);
}
