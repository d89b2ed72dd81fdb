use Rattle.std.proofs.Common.{◌≡◌, ◌++◌}
use Rattle.dirac_arith.specs.Interval.{whole, narrowed_by}
use Rattle.dirac_blocks.proofs.InLists.{list_row, list_rows}
use Rattle.dirac_blocks.proofs.list_writer.list_block.Given as goal

abbrev pub invariant-rows : goal.invariant-rows
invariant-rows l = l.encoder ≡ narrowed_by whole (list_rows l.list l.table l.sy)

abbrev pub invariant-superblocks : goal.invariant-superblocks
invariant-superblocks l = l.encoder ≡ narrowed_by whole (list_rows l.list l.table l.sy ++ list_row l.list l.table l.sy l.sx)
