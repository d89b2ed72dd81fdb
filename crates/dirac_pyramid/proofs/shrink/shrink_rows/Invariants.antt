use Rattle.std.proofs.Common.{◌≡◌, ℕ, pos, ◌<◌, slice_index_or}
use Rattle.dirac_pyramid.specs.Pyramid.{half_row}
use Rattle.dirac_pyramid.proofs.shrink.shrink_rows.Given as goal

abbrev pub invariant-pairs : goal.invariant-pairs
invariant-pairs l = (x : ℕ) → x < l.x → slice_index_or l.out x (pos 0) ≡ half_row l.above l.below x
