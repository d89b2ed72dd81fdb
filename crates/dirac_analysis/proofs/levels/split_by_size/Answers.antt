use Rattle.dirac_analysis.proofs.levels.split_by_size.Goals as goal

pub split_wide-requires : goal.split_wide-requires
split_wide-requires c = rw c.in_ok-wide.ensures c.requires
