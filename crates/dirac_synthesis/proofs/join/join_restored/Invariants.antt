use Rattle.std.proofs.Common.{◌≡◌, ◌*◌}
use Rattle.dirac_bands.specs.Interleaving.{joined_at}
use Rattle.dirac_common.proofs.Rows.{RowsFilled}
use Rattle.dirac_synthesis.specs.Codeblocks.{restored_by_one}
use Rattle.dirac_synthesis.proofs.join.join_restored.Given as goal

abbrev pub invariant-loop-y : goal.invariant-loop-y
invariant-loop-y l = record {
  across : l.plane.width ≡ 2 * l.low.width;
  down : l.plane.height ≡ 2 * l.low.height;
  rows : RowsFilled (joined_at l.low (restored_by_one l.by.kind l.hl) (restored_by_one l.by.kind l.lh) (restored_by_one l.by.kind l.hh)) l.plane.width l.plane.height l.plane.values (2 * l.y);
}
