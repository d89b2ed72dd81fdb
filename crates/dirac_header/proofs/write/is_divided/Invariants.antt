use Rattle.std.proofs.Common.{◌≡◌, drop}
use Rattle.dirac_header.specs.Written.{is_divided}
use Rattle.dirac_header.proofs.write.is_divided.Given as goal

abbrev pub invariant-levels : goal.invariant-levels
invariant-levels l = is_divided (drop l.level l.counts) ≡ is_divided l.counts
