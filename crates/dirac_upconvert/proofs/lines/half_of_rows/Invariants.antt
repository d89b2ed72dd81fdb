use Rattle.std.proofs.Common.{◌≡◌, ℕ, pos, ◌<◌, slice_index_or}
use Rattle.dirac_upconvert.specs.Around.{between_rows_at}
use Rattle.dirac_upconvert.proofs.lines.half_of_rows.Given as goal

abbrev pub invariant-loop-x : goal.invariant-loop-x
invariant-loop-x l = (x : ℕ) → x < l.x → slice_index_or l.out x (pos 0) ≡ between_rows_at l.rows x
