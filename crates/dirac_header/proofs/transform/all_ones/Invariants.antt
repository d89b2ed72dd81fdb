use Rattle.std.proofs.Common.{◌≡◌}
use Rattle.std.specs.Prelude.{replicate}
use Rattle.dirac_header.proofs.transform.all_ones.Given as goal

abbrev pub invariant-levels : goal.invariant-levels
invariant-levels l = l.counts ≡ replicate l._level (1, 1)
