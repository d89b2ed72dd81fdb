use Rattle.std.proofs.Common.{◌≤◌, ◌-◌, ◌*◌}
use Rattle.dirac_obmc.specs.Adding.{Adds}
use Rattle.dirac_obmc.specs.Compensation.{blocks_across, blocks_down, signed_total, y_length}
use Rattle.dirac_obmc.specs.Given.{compensation_of}
use Rattle.dirac_obmc.specs.Strips.{IsRoomForRows, added_at}
use Rattle.dirac_obmc.proofs.rows.predict_strip.Given as goal

abbrev pub invariant-loop-j : goal.invariant-loop-j
invariant-loop-j l = record {
  within : l.j ≤ blocks_down (compensation_of l.motion);
  room_fits : IsRoomForRows (y_length (compensation_of l.motion)) l.room;
  sums :
      Adds (λ p. signed_total (λ j. signed_total (λ i. added_at (compensation_of l.motion) l.lines.first j i p) (blocks_across (compensation_of l.motion))) l.j) (l.motion.width * (l.lines.end - l.lines.first)) l.initial.out l.out;
}
