use Rattle.std.proofs.Common.{◌≡◌, ◌*◌, ◌+◌, ◌/◌}
use Rattle.dirac_common.specs.Table.{table_at}
use Rattle.dirac_common.proofs.Rows.{RowsFilled}
use Rattle.dirac_bands.proofs.interleaving.split_band.Given as goal

abbrev pub invariant-loop-y : goal.invariant-loop-y
invariant-loop-y l = record {
  across : l.band.width ≡ l.plane.width / 2;
  down : l.band.height ≡ l.plane.height / 2;
  rows : RowsFilled (λ x y. table_at l.plane (2 * x + l.right) (2 * y + l.below)) l.band.width l.band.height l.band.values l.y;
}
