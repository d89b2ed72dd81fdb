use Rattle.std.proofs.Common.{◌≡◌, drop}
use Rattle.dirac_types.specs.Settings.{first_bad}
use Rattle.dirac_types.proofs.ranges.first_bad.Given as goal

abbrev pub invariant-rows : goal.invariant-rows
invariant-rows l = first_bad (drop l.row-index l.rows) ≡ first_bad l.rows
