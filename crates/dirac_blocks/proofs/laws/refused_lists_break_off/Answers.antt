use Rattle.dirac_blocks.proofs.Ones.{refused_is_broken, ones_are_refused, ones_refuse_splits}
use Rattle.dirac_blocks.proofs.laws.refused_lists_break_off.Goals as goal

pub returns : goal.returns
returns c = record { refused = refused_is_broken; ones = ones_are_refused; ones_in_splits = ones_refuse_splits }
