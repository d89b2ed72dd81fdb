use Rattle.std.proofs.Common.{◌≡◌, ◌++◌, drop}
use Rattle.dirac_bits.specs.Fronts.{HoldsFront}
use Rattle.dirac_header.specs.Written.{counts_bits}
use Rattle.dirac_header.proofs.write.write_counts.Given as goal

abbrev pub invariant-levels : goal.invariant-levels
invariant-levels l =
    (l.w ++ counts_bits (drop l.level l.counts) ≡ l.fn.w ++ counts_bits l.counts)
    × HoldsFront l.fn.w l.w (l.fn.w ++ counts_bits l.counts)
