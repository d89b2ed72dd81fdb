use Rattle.std.proofs.Common.{◌≡◌, ℕ, pos, ◌+◌, ◌*◌, ◌/◌, ◌<◌, length, slice_index_or}
use Rattle.dirac_upconvert.specs.Positions.{sample_from}
use Rattle.dirac_upconvert.proofs.rows.columns_of_parts.Given as goal

abbrev pub invariant-loop-c : goal.invariant-loop-c
invariant-loop-c l =
    (j k : ℕ) → j < length l.initial.out / l.width → k < 8 * l.c → slice_index_or l.out (j * l.width + k) (pos 0) ≡ sample_from l.table l.from k j
