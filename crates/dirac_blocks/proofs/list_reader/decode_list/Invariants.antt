use Rattle.std.proofs.Common.{◌≡◌, ◌+◌, ◌*◌, ◌≤◌, Ok, None}
use Rattle.dirac_arith.specs.Coded.{read_coded, repeated}
use Rattle.dirac_arith.specs.Deciding.{begin}
use Rattle.dirac_blocks.specs.Grammar.{list_step}
use Rattle.dirac_blocks.specs.Reached.{SameSize}
use Rattle.dirac_blocks.proofs.InLists.{RowReached}
use Rattle.dirac_blocks.proofs.list_reader.decode_list.Given as goal

abbrev pub invariant-rows : goal.invariant-rows
invariant-rows l =
    record {
      value : read_coded (repeated (λ sy. repeated (list_step l.list sy) l.across) l.sy l.fn.table) (begin l.block) ≡ Ok (l.table, l.decoder);
      size : SameSize l.fn.table l.table;
      blocks : l.list ≡ None → l.table.blocks ≡ l.fn.table.blocks;
      few_doublings : l.decoder.at.doublings ≤ 11501568 * l.sy;
    }

abbrev pub invariant-superblocks : goal.invariant-superblocks
invariant-superblocks l =
    record {
      value : RowReached l.list l.fn.table l.across (begin l.block) l.sy l.sx l.table l.decoder;
      size : SameSize l.fn.table l.table;
      blocks : l.list ≡ None → l.table.blocks ≡ l.fn.table.blocks;
      few_doublings : l.decoder.at.doublings ≤ 11501568 * l.sy + 11232 * l.sx;
    }
