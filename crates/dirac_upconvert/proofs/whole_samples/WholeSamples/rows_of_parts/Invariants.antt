use Rattle.std.proofs.Common.{◌≡◌, ℕ, pos, ◌/◌, ◌%◌, ◌<◌, slice_index_or}
use Rattle.dirac_upconvert.specs.HalfSamples.{half}
use Rattle.dirac_upconvert.specs.Positions.{sample_from}
use Rattle.dirac_upconvert.proofs.whole_samples.WholeSamples.rows_of_parts.Given as goal

abbrev pub invariant-loop-n : goal.invariant-loop-n
invariant-loop-n l = (n : ℕ) → n < l.n → slice_index_or l.out n (pos 0) ≡ sample_from (half l.self) l.from (n % l.width) (n / l.width)
