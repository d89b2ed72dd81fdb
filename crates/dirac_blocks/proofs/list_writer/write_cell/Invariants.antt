use Rattle.std.proofs.Common.{◌≡◌, ◌+◌, ◌++◌, ◌*◌}
use Rattle.dirac_arith.specs.Interval.{narrowed_by}
use Rattle.dirac_blocks.specs.Decisions.{unit_row, unit_rows}
use Rattle.dirac_blocks.specs.Parts.{part_at}
use Rattle.dirac_blocks.proofs.list_writer.write_cell.Given as goal

abbrev pub invariant-rows : goal.invariant-rows
invariant-rows l = l.encoder ≡ narrowed_by l.fn.encoder (unit_rows (part_at l.part l.table) l.size l.across (4 * l.sx) (4 * l.sy) l.v)

abbrev pub invariant-units : goal.invariant-units
invariant-units l =
    l.encoder ≡ narrowed_by l.fn.encoder (unit_rows (part_at l.part l.table) l.size l.across (4 * l.sx) (4 * l.sy) l.v ++ unit_row (part_at l.part l.table) l.size (4 * l.sx) (4 * l.sy + l.v * l.size) l.u)
