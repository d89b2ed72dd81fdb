use Rattle.std.proofs.Common.{◌≡◌, ℕ, pos, ◌*◌, ◌<◌, slice_index_or}
use Rattle.dirac_upconvert.proofs.Wholes.{rows_from}
use Rattle.dirac_upconvert.proofs.whole_samples.WholeSamples.samples_row_by_row.Given as goal

abbrev pub invariant-loop-j : goal.invariant-loop-j
invariant-loop-j l = (n : ℕ) → n < l.j * l.width → slice_index_or l.out n (pos 0) ≡ rows_from l.self l.x l.y l.width n
