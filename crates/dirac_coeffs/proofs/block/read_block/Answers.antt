use Rattle.dirac_coeffs.proofs.Read.{block_lawful, block_long, block_no_index, block_plain}
use Rattle.dirac_coeffs.proofs.block.read_block.Goals as goal

pub read_below-requires-clause-layout : goal.read_below-requires-clause-layout
read_below-requires-clause-layout c = c.requires.layout

pub read_below-requires-clause-index : goal.read_below-requires-clause-index
read_below-requires-clause-index c = c.requires.index

pub returns-clause-value : goal.returns-clause-value
returns-clause-value c = c.read_below.ensures

pub returns-clause-lawful : goal.returns-clause-lawful
returns-clause-lawful c = block_lawful c.args.layout c.args.at c.args.parent.now c.args.index c.args.block.now c.read_below.result c.requires.layout c.requires.index c.read_below.ensures

pub returns-clause-plain : goal.returns-clause-plain
returns-clause-plain c = block_plain c.args.layout c.args.at c.args.parent.now c.args.index c.args.block.now c.read_below.result c.requires.layout c.requires.index c.read_below.ensures

pub returns-clause-long : goal.returns-clause-long
returns-clause-long c = block_long c.args.layout c.args.at c.args.parent.now c.args.index c.args.block.now c.read_below.result c.requires.layout c.requires.index c.read_below.ensures

pub returns-clause-no_index : goal.returns-clause-no_index
returns-clause-no_index c = block_no_index c.args.layout c.args.at c.args.parent.now c.args.index c.args.block.now c.read_below.result c.requires.layout c.requires.index c.read_below.ensures
