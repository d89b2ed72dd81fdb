use Rattle.dirac_coeffs.proofs.block.read_below.Goals as goal

pub read_as-requires-clause-layout : goal.read_as-requires-clause-layout
read_as-requires-clause-layout c = c.requires.layout

pub read_as-requires-clause-index : goal.read_as-requires-clause-index
read_as-requires-clause-index c = c.requires.index
