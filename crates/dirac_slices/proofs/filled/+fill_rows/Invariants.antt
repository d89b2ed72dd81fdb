use Rattle.std.proofs.Common.{◌-◌}
use Rattle.dirac_slices.proofs.filled.+fill_rows.Given as goal

abbrev pub decreases-fill_rows : goal.decreases-fill_rows
decreases-fill_rows l = l.to - l.from
