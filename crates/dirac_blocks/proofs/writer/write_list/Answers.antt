use Rattle.std.proofs.Common.{refl}
use Rattle.dirac_bits.proofs.Fronts.{nothing_stands}
use Rattle.dirac_blocks.specs.Parts.{list_there}
use Rattle.dirac_blocks.proofs.Fronts.{lists_more}
use Rattle.dirac_blocks.proofs.writer.write_list.Goals as goal

pub returns-in-Err-clause-front : goal.returns-in-Err-clause-front
returns-in-Err-clause-front c = lists_more (list_there c.args.list c.args.table.now) (nothing_stands refl)

pub returns-in-Err-clause-exact : goal.returns-in-Err-clause-exact
returns-in-Err-clause-exact c = tt

pub returns-in-Err-clause-lists_have_short_blocks : goal.returns-in-Err-clause-lists_have_short_blocks
returns-in-Err-clause-lists_have_short_blocks c = tt
