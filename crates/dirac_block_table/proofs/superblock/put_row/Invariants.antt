use Rattle.dirac_block_table.specs.Puts.{RowPut}
use Rattle.dirac_block_table.proofs.superblock.put_row.Given as goal

abbrev pub invariant-columns : goal.invariant-columns
invariant-columns l = RowPut l.start l.split l.units l.from l.i l.fn.blocks.items l.blocks.items
