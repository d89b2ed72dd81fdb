use Rattle.std.proofs.Common.{◌≡◌, ◌+◌, ◌-◌, ◌*◌, ◌<◌, ◌≤◌}
use Rattle.dirac_obmc.specs.Adding.{Adds}
use Rattle.dirac_obmc.specs.Compensation.{blocks_across, signed_total, y_length}
use Rattle.dirac_obmc.specs.Given.{compensation_of}
use Rattle.dirac_obmc.specs.Strips.{IsRoomForRows, IsRun, added_at}
use Rattle.dirac_obmc.proofs.rows.add_blocks.Given as goal

abbrev pub invariant-loop-i : goal.invariant-loop-i
invariant-loop-i l = record {
  begins : l.begin ≤ l.i;
  run : l.i < blocks_across (compensation_of l.motion) → IsRun (compensation_of l.motion) l.begin (l.i + 1 - l.begin) l.j;
  whole : l.i ≡ blocks_across (compensation_of l.motion) → l.begin ≡ l.i;
  room_fits : IsRoomForRows (y_length (compensation_of l.motion)) l.room;
  sums : Adds (λ p. signed_total (λ i. added_at (compensation_of l.motion) l.lines.first l.j i p) l.begin) (l.motion.width * (l.lines.end - l.lines.first)) l.initial.sums l.sums;
}
