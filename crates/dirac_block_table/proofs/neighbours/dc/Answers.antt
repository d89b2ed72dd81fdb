use Rattle.dirac_block_table.proofs.neighbours.dc.Goals as goal

pub at-block-requires-clause-across : goal.at-block-requires-clause-across
at-block-requires-clause-across c = c.requires.column

pub at-block-requires-clause-down : goal.at-block-requires-clause-down
at-block-requires-clause-down c = c.requires.row
