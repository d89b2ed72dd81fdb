use Rattle.std.proofs.Common.{◌≡◌, ◌+◌, ◌*◌, ◌≤◌, length, Ok}
use Rattle.dirac_arith.specs.Coded.{read_coded}
use Rattle.dirac_arith.specs.Decoding.{reading_at}
use Rattle.dirac_arith.specs.Registers.{Runs, doublings_of}
use Rattle.dirac_coeffs.specs.BandRead.{row_step}
use Rattle.dirac_coeffs.specs.Contexts.{value_in_corner, value_left_of}
use Rattle.dirac_coeffs.specs.Decisions.{frame_of}
use Rattle.dirac_coeffs.proofs.values.read_narrow_row.Given as goal

abbrev pub invariant-values : goal.invariant-values
invariant-values l =
    record {
      value : read_coded (row_step (frame_of l.layout l.parent) l.y l.columns.start l.i l.fn.values) l.fn.decoder ≡ Ok (l.values, reading_at l.decoder l.place.left.registers);
      runs : Runs l.decoder.block l.place.left.registers;
      len : length l.values ≡ length l.fn.values;
      few_doublings : doublings_of l.place.left.registers ≤ l.fn.decoder.at.doublings + 702 * l.i;
      left : l.place.left.value ≡ value_left_of l.layout.width l.values (l.columns.start + l.i) l.y;
      corner : l.place.corner ≡ value_in_corner l.layout.width l.values (l.columns.start + l.i) l.y;
    }
