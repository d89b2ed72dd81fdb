use Rattle.std.proofs.Common.{◌≡◌}
use Rattle.dirac_arith.specs.Interval.{narrowed_by}
use Rattle.dirac_coeffs.specs.Decisions.{rows_part}
use Rattle.dirac_coeffs.specs.Lent.{numbers_in}
use Rattle.dirac_coeffs.specs.WrittenBand.{frame_in}
use Rattle.dirac_coeffs.proofs.value_writer.write_block_values.Given as goal

abbrev pub invariant-rows : goal.invariant-rows
invariant-rows l = l.encoder ≡ narrowed_by l.fn.encoder (rows_part (frame_in l.band) (numbers_in l.band.values) l.columns.start l.columns.length l.rows.start l.j)
