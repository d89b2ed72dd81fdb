use Rattle.dirac_blocks.proofs.BackwardLoops.{read_is_carried}
use Rattle.dirac_blocks.proofs.SplitBackwards.{read_splits_are_carried}
use Rattle.dirac_blocks.proofs.laws.read_lists_are_carried.Goals as goal

pub returns : goal.returns
returns c = record { units = read_is_carried; splits = read_splits_are_carried }
