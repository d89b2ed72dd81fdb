use Rattle.std.proofs.Common.{◌≡◌}
use Rattle.dirac_bits.specs.Syntax.{read}
use Rattle.dirac_blocks.specs.Grammar.{lists_of}
use Rattle.dirac_blocks.specs.Reached.{AllGrey, SameSize}
use Rattle.dirac_blocks.proofs.InOrder.{left_to_read}
use Rattle.dirac_blocks.proofs.list_reader.read_lists.Given as goal

abbrev pub invariant-lists : goal.invariant-lists
invariant-lists l =
    record {
      value : read (lists_of l.fn.table) l.fn.r ≡ read (left_to_read l.n l.table) l.r;
      size : SameSize l.fn.table l.table;
      grey : l.n ≡ 0 → AllGrey l.table.blocks;
      kept : l.r.bytes ≡ l.fn.r.bytes;
    }
