use Rattle.std.proofs.Common.{◌≡◌, ◌+◌, ◌*◌, ◌≤◌, length, Ok}
use Rattle.dirac_arith.specs.Coded.{read_coded}
use Rattle.dirac_coeffs.specs.BandRead.{rows_step}
use Rattle.dirac_coeffs.specs.Decisions.{frame_of}
use Rattle.dirac_coeffs.specs.Lent.{IsNarrow, numbers_in, values_in}
use Rattle.dirac_coeffs.proofs.rows.read_block_values.Given as goal

abbrev pub invariant-rows : goal.invariant-rows
invariant-rows l =
    record {
      value : read_coded (rows_step (frame_of l.layout (numbers_in l.parent)) l.columns.start l.columns.length l.rows.start l.j (values_in l.fn.values)) l.fn.decoder ≡ Ok (values_in l.values, l.decoder);
      len : length (values_in l.values) ≡ length (values_in l.fn.values);
      narrow : IsNarrow l.values → IsNarrow l.fn.values;
      few_doublings : l.decoder.at.doublings ≤ l.fn.decoder.at.doublings + 702 * (l.j * l.columns.length);
    }
