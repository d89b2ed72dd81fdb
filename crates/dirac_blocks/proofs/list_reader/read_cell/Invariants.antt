use Rattle.std.proofs.Common.{◌≡◌, ◌+◌, ◌*◌, ◌≤◌, Ok}
use Rattle.dirac_arith.specs.Coded.{read_coded}
use Rattle.dirac_blocks.specs.Grammar.{unit_rows_step}
use Rattle.dirac_blocks.specs.Reached.{SameShape}
use Rattle.dirac_blocks.proofs.Shapes.{UnitsReached}
use Rattle.dirac_blocks.proofs.list_reader.read_cell.Given as goal

abbrev pub invariant-rows : goal.invariant-rows
invariant-rows l =
    record {
      value : read_coded (unit_rows_step l.part l.size l.across (4 * l.sx) (4 * l.sy) l.v l.fn.table) l.fn.decoder ≡ Ok (l.table, l.decoder);
      shape : SameShape l.fn.table l.table;
      few_doublings : l.decoder.at.doublings ≤ l.fn.decoder.at.doublings + 2808 * l.v;
    }

abbrev pub invariant-units : goal.invariant-units
invariant-units l =
    record {
      value : UnitsReached l.part l.size l.across (4 * l.sx) (4 * l.sy) l.fn.table l.fn.decoder l.v l.u l.table l.decoder;
      shape : SameShape l.fn.table l.table;
      few_doublings : l.decoder.at.doublings ≤ l.fn.decoder.at.doublings + 2808 * l.v + 702 * l.u;
    }
