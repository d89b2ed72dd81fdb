use Rattle.std.proofs.Common.{◌≡◌, ◌*◌}
use Rattle.dirac_bands.specs.Interleaving.{joined_at}
use Rattle.dirac_common.proofs.Rows.{RowsFilled}
use Rattle.dirac_bands.proofs.interleaving.join_bands.Given as goal

abbrev pub invariant-loop-y : goal.invariant-loop-y
invariant-loop-y l = record {
  across : l.plane.width ≡ 2 * l.ll.width;
  down : l.plane.height ≡ 2 * l.ll.height;
  rows : RowsFilled (joined_at l.ll l.hl l.lh l.hh) l.plane.width l.plane.height l.plane.values (2 * l.y);
}
