use Rattle.std.proofs.Common.{◌≡◌, ◌++◌}
use Rattle.dirac_arith.specs.Interval.{whole, narrowed_by}
use Rattle.dirac_coeffs.specs.WrittenBand.{blocks_of_row, rows_of_blocks}
use Rattle.dirac_coeffs.proofs.block_writer.write_below.Given as goal

abbrev pub invariant-down : goal.invariant-down
invariant-down l = l.encoder ≡ narrowed_by whole (rows_of_blocks l.band l.cy)

abbrev pub invariant-across : goal.invariant-across
invariant-across l = l.encoder ≡ narrowed_by whole (rows_of_blocks l.band l.cy ++ blocks_of_row l.band l.cy l.cx)
