use Rattle.dirac_coeffs.proofs.block_writer.write_block.Goals as goal

pub write_below-requires-clause-layout : goal.write_below-requires-clause-layout
write_below-requires-clause-layout c = c.requires.layout

pub write_below-requires-clause-lawful : goal.write_below-requires-clause-lawful
write_below-requires-clause-lawful c = c.requires.lawful

pub write_below-requires-clause-indices : goal.write_below-requires-clause-indices
write_below-requires-clause-indices c = c.requires.indices

pub returns-clause-exact : goal.returns-clause-exact
returns-clause-exact c = c.write_below.ensures.exact

pub returns-clause-read_back : goal.returns-clause-read_back
returns-clause-read_back c = c.write_below.ensures.read_back
