use Rattle.std.proofs.Common.{ℕ, All}
use Rattle.dirac_block_table.specs.Puts.{RowsPut}
use Rattle.dirac_block_table.specs.Tables.{IsBlock}
use Rattle.dirac_block_table.proofs.superblock.put_superblock.Given as goal

abbrev pub invariant-rows : goal.invariant-rows
invariant-rows l =
    record {
      rows : RowsPut l.width l.left l.top l.split l.units l.j l.fn.blocks.items l.blocks.items;
      lawful : (refs : ℕ) → All (IsBlock refs) l.units → All (IsBlock refs) l.fn.blocks.items → All (IsBlock refs) l.blocks.items;
    }
