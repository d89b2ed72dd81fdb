use Rattle.std.proofs.Common.{◌≡◌, ◌+◌, ◌*◌, length}
use Rattle.dirac_block_table.specs.Filling.{row_filled, rows_filled}
use Rattle.dirac_block_table.proofs.filling.fill_rows.Given as goal

abbrev pub invariant-rows : goal.invariant-rows
invariant-rows l =
    record {
      exact : l.blocks.items ≡ rows_filled l.width l.fn.blocks.items l.size l.i l.j l.block l.n;
      len : length l.blocks.items ≡ length l.fn.blocks.items;
    }

abbrev pub invariant-places : goal.invariant-places
invariant-places l =
    record {
      exact : l.blocks.items ≡ row_filled (rows_filled l.width l.fn.blocks.items l.size l.i l.j l.block l.n) ((l.j + l.n) * l.width + l.i) l.block l.k;
      len : length l.blocks.items ≡ length l.fn.blocks.items;
    }
