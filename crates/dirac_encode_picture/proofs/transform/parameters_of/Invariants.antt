use Rattle.std.proofs.Common.{◌≡◌}
use Rattle.dirac_encode_laws.specs.Coded.{counts_below}
use Rattle.dirac_encode_picture.proofs.transform.parameters_of.Given as goal

abbrev pub invariant-levels : goal.invariant-levels
invariant-levels l = l.counts ≡ counts_below l.settings l.level
