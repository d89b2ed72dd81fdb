use Rattle.std.proofs.Common.{◌≡◌, ◌+◌, ◌*◌, ◌≤◌, length, Ok}
use Rattle.dirac_arith.specs.Coded.{read_coded}
use Rattle.dirac_arith.specs.Deciding.{begin}
use Rattle.dirac_bands.specs.Geometry.{edge_of}
use Rattle.dirac_coeffs.specs.BandRead.{block_rows_step}
use Rattle.dirac_coeffs.specs.Lent.{IsNarrow, content_in, numbers_in, values_in}
use Rattle.dirac_coeffs.proofs.Read.{RowReached}
use Rattle.dirac_coeffs.proofs.codeblocks.read_content.Given as goal

abbrev pub invariant-down : goal.invariant-down
invariant-down l =
    record {
      value : read_coded (block_rows_step l.frame.layout (numbers_in l.frame.parent) l.frame.index l.cy (content_in l.fn.filling)) (begin l.block) ≡ Ok (content_in l.filling, l.decoder);
      len : length (values_in l.filling.values) ≡ l.frame.layout.width * l.frame.layout.height;
      narrow : IsNarrow l.filling.values → IsNarrow l.fn.filling.values;
      count : length l.filling.indices ≡ l.frame.layout.across * l.frame.layout.down;
      few_doublings : l.decoder.at.doublings ≤ (711 * 8192 + 702 * 8192 * 8192) * l.cy;
    }

abbrev pub invariant-across : goal.invariant-across
invariant-across l =
    record {
      value : RowReached l.frame.layout (numbers_in l.frame.parent) l.frame.index (content_in l.fn.filling) (begin l.block) l.cy l.cx (content_in l.filling) l.decoder;
      len : length (values_in l.filling.values) ≡ l.frame.layout.width * l.frame.layout.height;
      narrow : IsNarrow l.filling.values → IsNarrow l.fn.filling.values;
      count : length l.filling.indices ≡ l.frame.layout.across * l.frame.layout.down;
      few_doublings : l.decoder.at.doublings ≤ (711 * 8192 + 702 * 8192 * 8192) * l.cy + 711 * l.cx + 702 * 8192 * edge_of l.frame.layout.width l.frame.layout.across l.cx;
    }
