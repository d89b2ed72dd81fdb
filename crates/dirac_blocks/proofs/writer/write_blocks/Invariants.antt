use Rattle.std.proofs.Common.{◌≡◌}
use Rattle.dirac_blocks.specs.Written.{with_lists, ListsHaveShortBlocks}
use Rattle.dirac_blocks.proofs.InOrder.{lists_before}
use Rattle.dirac_blocks.proofs.writer.write_blocks.Given as goal

abbrev pub invariant-lists : goal.invariant-lists
invariant-lists l =
    record {
      exact : l.w ≡ with_lists (lists_before l.blocks l.n) l.fn.w;
      lists_have_short_blocks : ListsHaveShortBlocks (lists_before l.blocks l.n);
    }
