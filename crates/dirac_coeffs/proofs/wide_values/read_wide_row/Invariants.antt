use Rattle.std.proofs.Common.{◌≡◌, ◌+◌, ◌*◌, ◌≤◌, length, Ok}
use Rattle.dirac_arith.specs.Coded.{read_coded}
use Rattle.dirac_coeffs.specs.BandRead.{row_step}
use Rattle.dirac_coeffs.specs.Decisions.{frame_of}
use Rattle.dirac_coeffs.specs.Lent.{numbers_in}
use Rattle.dirac_coeffs.proofs.wide_values.read_wide_row.Given as goal

abbrev pub invariant-values : goal.invariant-values
invariant-values l =
    record {
      value : read_coded (row_step (frame_of l.layout (numbers_in l.parent)) l.y l.columns.start l.i l.fn.values) l.fn.decoder ≡ Ok (l.values, l.decoder);
      len : length l.values ≡ length l.fn.values;
      few_doublings : l.decoder.at.doublings ≤ l.fn.decoder.at.doublings + 702 * l.i;
    }
