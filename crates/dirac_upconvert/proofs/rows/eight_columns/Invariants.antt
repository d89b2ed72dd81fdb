use Rattle.std.proofs.Common.{◌≡◌, ℕ, pos, ◌+◌, ◌*◌, ◌<◌, slice_index_or}
use Rattle.dirac_upconvert.specs.Positions.{sample_from}
use Rattle.dirac_upconvert.proofs.rows.eight_columns.Given as goal

abbrev pub invariant-loop-j : goal.invariant-loop-j
invariant-loop-j l = record {
  eight : (j k : ℕ) → j < l.j → k < 8 → slice_index_or l.out (j * l.width + (l.first + k)) (pos 0) ≡ sample_from l.table l.from k j;
  before : (j k : ℕ) → k < l.first → slice_index_or l.out (j * l.width + k) (pos 0) ≡ slice_index_or l.initial.out (j * l.width + k) (pos 0);
}
