use Rattle.std.proofs.Common.{◌+◌, ◌-◌, ◌*◌, ◌/◌, ◌%◌}
use Rattle.dirac_obmc.specs.Compensation.{predicted_at, y_length}
use Rattle.dirac_obmc.specs.Given.{compensation_of}
use Rattle.dirac_obmc.specs.Strips.{IsRoomForRows}
use Rattle.dirac_obmc.proofs.StripRows.{RowsWritten}
use Rattle.dirac_obmc.proofs.rows.predict_lines.Given as goal

abbrev pub invariant-loop-n : goal.invariant-loop-n
invariant-loop-n l = record {
  room_fits : IsRoomForRows (y_length (compensation_of l.motion)) l.room;
  rows :
      RowsWritten (λ p. predicted_at (compensation_of l.motion) (p % l.motion.width) (l.lines.first + p / l.motion.width)) l.motion.width (64 * l.n) (l.motion.width * (l.lines.end - l.lines.first)) l.out;
}
