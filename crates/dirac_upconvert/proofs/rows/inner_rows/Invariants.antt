use Rattle.std.proofs.Common.{◌≡◌, ℕ, pos, ◌*◌, ◌<◌, slice_index_or}
use Rattle.dirac_upconvert.proofs.Lanes.{by_rows}
use Rattle.dirac_upconvert.proofs.rows.inner_rows.Given as goal

abbrev pub invariant-loop-j : goal.invariant-loop-j
invariant-loop-j l = (n : ℕ) → n < l.j * l.width → slice_index_or l.out n (pos 0) ≡ by_rows l.table l.from l.width n
