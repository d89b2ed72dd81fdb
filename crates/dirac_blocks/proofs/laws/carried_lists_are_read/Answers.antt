use Rattle.dirac_blocks.proofs.ForwardLoops.{carried_is_read}
use Rattle.dirac_blocks.proofs.SplitForwards.{carried_splits_are_read}
use Rattle.dirac_blocks.proofs.laws.carried_lists_are_read.Goals as goal

pub returns : goal.returns
returns c = record { units = carried_is_read; splits = carried_splits_are_read }
