use Rattle.std.proofs.Common.{◌≡◌, ◌+◌}
use Rattle.dirac_arith.specs.Interval.{narrowed_by}
use Rattle.dirac_coeffs.specs.Contexts.{value_in_corner, value_left_of}
use Rattle.dirac_coeffs.specs.Decisions.{row_part}
use Rattle.dirac_coeffs.specs.Lent.{numbers_in}
use Rattle.dirac_coeffs.specs.WrittenBand.{frame_in}
use Rattle.dirac_coeffs.proofs.value_writer.write_part.Given as goal

abbrev pub invariant-values : goal.invariant-values
invariant-values l = record {
  written : l.encoder ≡ narrowed_by l.fn.encoder (row_part (frame_in l.band) (numbers_in l.band.values) l.y l.columns.start l.i);
  left : l.beside.left ≡ value_left_of l.band.layout.width (numbers_in l.band.values) (l.columns.start + l.i) l.y;
  corner : l.beside.corner ≡ value_in_corner l.band.layout.width (numbers_in l.band.values) (l.columns.start + l.i) l.y;
}
